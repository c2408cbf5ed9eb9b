-- proofs/Book/depth/Answers.antt
use Rattle.rules.proofs.Bests.{priced-sound}
use Rattle.book.proofs.Book.depth.Goals as goal

pub depth-requires : goal.depth-requires
depth-requires c = (c.args.self.now.valid.sound.orders, priced-sound c.args.self.now.valid.sound)
