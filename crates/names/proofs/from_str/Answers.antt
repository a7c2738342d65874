use Rattle.std.proofs.Common.{Some, sym, ap, ◌∙◌, rules}
use Rattle.std.proofs.lemmas.Fn.{always_returns_same}
use Rattle.text_bytes.specs.Words.{lowered}
use Rattle.names.specs.declared.Named.TheVariants as N
use Rattle.names.proofs.Searches.{standing, found_at, found_none, is_transparent, is_unknown}
use Rattle.names.proofs.from_str.Goals as goal

pub returns-in-Ok : goal.returns-in-Ok
returns-in-Ok c =
    let found = c.in-Ok.ensures.position (standing (lowered c.args.word.now)) (always_returns_same _ _ _ (λ a r f k. search rules)) in
    ap (λ x. Some (N.Keyword x)) c.colour_of.ensures
    ∙ found_at c.table-keywords.result.now c.table-keywords.ensures c.args.word.now c.in-Ok.k _ c.in-Ok.ensures.bound found

pub returns-in-Err : goal.returns-in-Err
returns-in-Err c =
    let found = c.in-Err.ensures.position (standing (lowered c.args.word.now)) (always_returns_same _ _ _ (λ a r f k. search rules)) in
    sym (found_none c.table-keywords.result.now c.table-keywords.ensures c.args.word.now c.in-Err.field-0 found
    ∙ is_transparent (lowered c.args.word.now) c.equals_lowered.ensures c.if-equals_lowered.true)

pub returns-in-Err-2 : goal.returns-in-Err-2
returns-in-Err-2 c =
    let found = c.in-Err.ensures.position (standing (lowered c.args.word.now)) (always_returns_same _ _ _ (λ a r f k. search rules)) in
    sym (found_none c.table-keywords.result.now c.table-keywords.ensures c.args.word.now c.in-Err.field-0 found
    ∙ is_unknown (lowered c.args.word.now) c.equals_lowered.ensures c.if-equals_lowered.false)
