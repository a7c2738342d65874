use Rattle.names.specs.Keywords.{keywords}
use Rattle.fast_names.specs.Named.{named_number}
use Rattle.packed.specs.Numbers.{color_number}
use Rattle.fast_names.specs.Letters.{four, head, tail, found, of_length, of_long}
use Rattle.fast_names.proofs.Arms.{long_none}
use borrow.Author.Rules.{rules}
use Rattle.fast_names.proofs.letters.of_eleven.Goals as goal

pub returns-in_default : goal.returns-in_default
unfolding of_long of_length found keywords head tail four named_number color_number
returns-in_default c = long_none 11 c.args.k c.args.l (search rules) tt
