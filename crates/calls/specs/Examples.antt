-- Items and ends of the input.
use Rattle.std.specs.Prelude.{◌≡◌, refl, [], ◌∷◌, negsuc, None, Some, Ok}
use Rattle.base.specs.Pick.{pick}
use Rattle.frames.specs.Number.{number}
use Rattle.rules.specs.Lookups.{depth_tells, nets_tells, net_told}
use Rattle.lines.specs.Lines.{digits, decimal, signed, spaced, text_line, net_text, told_line}
use Rattle.calls.specs.Items.{item_of, lent_of}
use Rattle.calls.specs.Listings.{cut_line, depth_text, nets_text}

-- an empty frame is an item, and a frame of one byte that is not there none
empty-frame : item_of (0 ∷ (0 ∷ (0 ∷ (60 ∷ [])))) ≡ 4
unfolding item_of number pick
empty-frame = refl

cut-frame : item_of (1 ∷ (0 ∷ (0 ∷ (60 ∷ [])))) ≡ 0
unfolding item_of number pick
cut-frame = refl

cut-lengths : item_of (0 ∷ (0 ∷ (0 ∷ []))) ≡ 0
unfolding item_of pick
cut-lengths = refl

-- spaces of 15,359 and of 15,361 numbers
space-under : lent_of (0 ∷ (0 ∷ (255 ∷ (59 ∷ [])))) ≡ 15_359
unfolding lent_of number pick
space-under = refl

space-over : lent_of (0 ∷ (0 ∷ (1 ∷ (60 ∷ [])))) ≡ 15_360
unfolding lent_of number pick
space-over = refl

-- `cut` where bytes are left
no_cut : cut_line 0 ≡ []
unfolding cut_line pick
no_cut = refl

cut-text : cut_line 3 ≡ 99 ∷ (117 ∷ (116 ∷ (10 ∷ [])))
unfolding cut_line pick
cut-text = refl

-- `D 0 1 300 3`
depth-text : depth_text 0 1 (depth_tells (Ok (Some (record { price = 300; contracts = 3 })))) ≡ 68 ∷ (32 ∷ (48 ∷ (32 ∷ (49 ∷ (32 ∷ (51 ∷ (48 ∷ (48 ∷ (32 ∷ (51 ∷ (10 ∷ [])))))))))))
unfolding depth_text depth_tells text_line spaced signed decimal digits pick
depth-text = refl

-- `N 3 -15 -`
nets-text : nets_text 3 (nets_tells (Ok (record { bid = Some (negsuc 14); offer = None }))) ≡ 78 ∷ (32 ∷ (51 ∷ (32 ∷ (45 ∷ (49 ∷ (53 ∷ (32 ∷ (45 ∷ (10 ∷ [])))))))))
unfolding nets_text nets_tells net_told told_line net_text signed decimal digits pick
nets-text = refl
