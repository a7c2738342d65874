use Rattle.std.proofs.Common.{option_map, sym, ap, ◌∙◌, rules, tests}
use Rattle.std.proofs.lemmas.Iterator.{YieldsList-from_slice}
use Rattle.std.proofs.lemmas.Iterator.Search.{find_from_yields_List}
use Rattle.names.proofs.Backs.{coloured, named_first}
use Rattle.names.proofs.name_of.Goals as goal

pub returns-in_err-entry : goal.returns-in_err-entry
returns-in_err-entry c =
    let found = find_from_yields_List (coloured c.args.color) _ _ c.find.result c.find.ensures.ran (YieldsList-from_slice c.table.result.now cc) (λ x b q k. search (rules, tests)) in
    let named = named_first c.args.color c.table.result.now c.table.ensures c.find.result found in
    ap (option_map (λ w. w.now)) c.from_residual.ensures ∙ (ap (option_map (λ e. e.now.0.now)) (sym c.in_err-entry.was) ∙ named)

pub returns : goal.returns
returns c =
    let found = find_from_yields_List (coloured c.args.color) _ _ c.find.result c.find.ensures.ran (YieldsList-from_slice c.table.result.now cc) (λ x b q k. search (rules, tests)) in
    let named = named_first c.args.color c.table.result.now c.table.ensures c.find.result found in
    ap (option_map (λ e. e.now.0.now)) (sym c.in_ok-entry.was) ∙ named
