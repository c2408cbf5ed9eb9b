use Rattle.given.specs.Definitions.{fit-legs}
use Rattle.given.proofs.legs_given.Goals as goal

pub leg_given-requires : goal.leg_given-requires
leg_given-requires c = (fit-legs c.requires.legs).0

pub leg_given-requires-2 : goal.leg_given-requires-2
leg_given-requires-2 c = (fit-legs c.requires.legs).1

pub leg_given-requires-3 : goal.leg_given-requires-3
leg_given-requires-3 c = (fit-legs c.requires.legs).2

pub leg_given-requires-4 : goal.leg_given-requires-4
leg_given-requires-4 c = (fit-legs c.requires.legs).3

pub leg_given-requires-5 : goal.leg_given-requires-5
leg_given-requires-5 c = (fit-legs c.requires.legs).4

pub leg_given-requires-6 : goal.leg_given-requires-6
leg_given-requires-6 c = (fit-legs c.requires.legs).5

pub returns : goal.returns
returns c = rw (c.leg_given.ensures, c.leg_given-2.ensures, c.leg_given-3.ensures, c.leg_given-4.ensures, c.leg_given-5.ensures, c.leg_given-6.ensures)
