-- The state that an entry has entered, and its ranges.
use Rattle.std.specs.Prelude.{◌≡◌, refl, List, ◌<◌}
use Rattle.rules.specs.declared.Entry.{Entry}
use Rattle.rules.specs.declared.State.{State}
use Rattle.rules.specs.State.{no_entry, strategy_at, with_entries, with_last}
use Rattle.rules.specs.Events.{live, behind, enter}
use Rattle.rules.specs.Valid.{FitEntry}
use Rattle.rules.proofs.Entering.{fit_none}
use Rattle.rules.proofs.Tables.{behind-length, behind-all, behind-live}
use Rattle.ranges.specs.Fit.{Fit}

-- the state with these rows, and the entry's number given last
abbrev pub entered : Entry → List Entry → State → State
entered e rows b = record { strategies = b.strategies; nets = b.nets; entries = rows; orders = b.orders; defined = b.defined; opened = b.opened; clock = b.clock; timer = b.timer; last = e.number; national = b.national; range = b.range }

pub entered-is : (e : Entry) (b : State) {rows : List Entry} → rows ≡ behind live no_entry e b.entries → entered e rows b ≡ enter e b
unfolding enter with_last with_entries
entered-is e b p = rw p

pub fit-enter : (e : Entry) (b : State) {c : State} → c ≡ enter e b → FitEntry e → 0 < (strategy_at b e.strategy).count → Fit b → Fit c
unfolding enter with_last with_entries
fit-enter e b g h l f =
    rw g
    (record {
      strategies = f.strategies;
      entries = behind-all live no_entry e b.entries fit_none h f.entries;
      orders = f.orders;
      priced = f.priced;
      strategy_rows = f.strategy_rows;
      entry_rows = behind-length live no_entry e b.entries;
      order_rows = f.order_rows;
      quotes = f.quotes;
      quote_rows = f.quote_rows;
      range = f.range;
      nets = record { are = f.nets.are };
      live = behind-live live no_entry (λ (y : Entry). y.units) refl e b.entries (λ (y : Entry). 0 < (strategy_at b y.strategy).count) l f.live;
    })
