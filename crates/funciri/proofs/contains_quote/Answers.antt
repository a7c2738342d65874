use Rattle.std.proofs.Common.{◌≡◌, sym, ◌∙◌, true, false}
use Rattle.funciri.proofs.Quotes.{holds, quotes}
use Rattle.funciri.proofs.contains_quote.Goals as goal

pub returns-then-contains : goal.returns-then-contains
returns-then-contains c =
    let s = c.args.link.now in
    let z : holds 39 s ≡ true = sym c.contains.ensures.value ∙ c.if-contains.true in
    c.if-contains.true ∙ rw z at (quotes s)

pub returns-else-contains : goal.returns-else-contains
returns-else-contains c =
    let s = c.args.link.now in
    let z : holds 39 s ≡ false = sym c.contains.ensures.value ∙ c.if-contains.false in
    c.contains-else-contains.ensures.value ∙ rw z at (quotes s)
