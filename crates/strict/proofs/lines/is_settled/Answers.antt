use Rattle.std.proofs.Common.{◌≡◌, refl, sym, ◌∙◌, true, false}
use Rattle.strict.specs.Asked.{has_feed, is_settled}
use Rattle.strict.proofs.Feeds.{feed_there}
use Rattle.strict.proofs.lines.is_settled.Goals as goal

pub returns-then-contains : goal.returns-then-contains
unfolding is_settled
returns-then-contains c =
    let s = c.args.input.now in
    let z : has_feed s ≡ true = sym (feed_there s) ∙ (sym c.contains.ensures.value ∙ c.if-contains.true) in
    rw z c.if-contains.true

pub returns-else-contains : goal.returns-else-contains
unfolding is_settled
returns-else-contains c =
    let s = c.args.input.now in
    let z : has_feed s ≡ false = sym (feed_there s) ∙ (sym c.contains.ensures.value ∙ c.if-contains.false) in
    rw z refl
