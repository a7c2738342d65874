use Rattle.names.specs.Keywords.{keywords}
use Rattle.fast_names.specs.Named.{named_number}
use Rattle.packed.specs.Numbers.{color_number}
use Rattle.fast_names.specs.Letters.{four, short, found, of_length, of_short}
use Rattle.fast_names.proofs.Arms.{short_none}
use borrow.Author.Rules.{rules}
use Rattle.fast_names.proofs.letters.of_four.Goals as goal

pub returns-in_default : goal.returns-in_default
unfolding of_short of_length found keywords short four named_number color_number
returns-in_default c = short_none 4 c.args.k (search rules) tt
