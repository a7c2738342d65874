use borrow.Author.Tests.{ne_eqb}
use Rattle.names.specs.Keywords.{keywords}
use Rattle.fast_names.specs.Named.{named_number}
use Rattle.packed.specs.Numbers.{color_number}
use Rattle.fast_names.specs.Letters.{four, head, tail, found, of_length, of_long}
use Rattle.fast_names.proofs.Arms.{long_none}
use borrow.Author.Rules.{rules}
use Rattle.fast_names.proofs.letters.of_fourteen.Goals as goal

pub returns-in_default-l : goal.returns-in_default-l
unfolding of_long of_length found keywords head tail four named_number color_number
returns-in_default-l c = simp (c.in-7020112862968768876.is, ne_eqb c.args.l 8747523639646380396 (search rules), ne_eqb c.args.l 8746397739739537772 (search rules))

pub returns-in_default : goal.returns-in_default
unfolding of_long of_length found keywords head tail four named_number color_number
returns-in_default c = long_none 14 c.args.k c.args.l (search rules) tt
