use Rattle.std.proofs.Common.{◌∙◌, rules, tests}
use Rattle.std.proofs.lemmas.Iterator.{YieldsList-from_slice, YieldsList-from_zip}
use Rattle.std.proofs.lemmas.Iterator.Search.{all_from_yields_List}
use Rattle.text_bytes.proofs.Wording.{alike, zip_lowered}
use Rattle.text_bytes.proofs.equals_lowered.Goals as goal

pub returns-then-text-word : goal.returns-then-text-word
returns-then-text-word c =
    let s = c.args.text.now in
    let w = c.args.word.now in
    all_from_yields_List {s = c.zip.result} alike c.all.new.self _ c.all.result c.all.ensures.ran (YieldsList-from_zip {s = c.zip.result} (YieldsList-from_slice s cc) (YieldsList-from_slice w cc)) (λ x b q k. search (rules, tests))
    ∙ zip_lowered s w (search rules)
