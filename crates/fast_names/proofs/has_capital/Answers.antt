use Rattle.std.proofs.Common.{rules, tests}
use Rattle.std.proofs.lemmas.Iterator.{YieldsList-from_slice}
use Rattle.std.proofs.lemmas.Iterator.Search.{any_from_yields_List}
use Rattle.text_bytes.specs.Bytes.{is_upper, within}
use Rattle.fast_names.proofs.has_capital.Goals as goal

pub returns : goal.returns
unfolding within
returns c = any_from_yields_List is_upper _ _ c.any.result c.any.ensures.ran (YieldsList-from_slice c.args.word.now cc) (λ x b q k. search (rules, tests))
