use Rattle.std.proofs.Common.{◌≡◌, length, drop, ◌∷◌, [], suc, sym, subst, ◌∙◌, arith, length-append}
use Rattle.std.proofs.lemmas.Slice.Zip.{zip_turn, zip_end}
use Rattle.text_bytes.specs.Words.{lowered}
use Rattle.names.specs.Order.{order}
use Rattle.names.proofs.Orders.{turn_told, turn_on, lengths_tell}
use Rattle.names.proofs.compare.Goals as goal

pub returns-then-is_ne : goal.returns-then-is_ne
returns-then-is_ne c =
    let t = zip_turn c.args.name.now c.args.word.now c.loop-n.yielded c.into_iter-n-iterator.result c.loop-n.n-iterator c.next.new.self _ (cc) (cc) c.loop-n.yielded_by _ c.in-Some.is c.next.ensures.steps in
    turn_told (length c.loop-n.yielded) c.args.name.now c.args.word.now t.0 t.1 c.cmp-stand.result (cc (t.2 0, t.3 0)) c.loop-n.invariant (cc)

pub loop-n-preserved : goal.loop-n-preserved
loop-n-preserved c =
    let t = zip_turn c.args.name.now c.args.word.now c.loop-n.yielded c.into_iter-n-iterator.result c.loop-n.n-iterator c.next.new.self _ (cc) (cc) c.loop-n.yielded_by _ c.in-Some.is c.next.ensures.steps in
    subst (λ k. order (drop k c.args.name.now) (drop k (lowered c.args.word.now)) ≡ order c.args.name.now (lowered c.args.word.now))
    {x = suc (length c.loop-n.yielded)} (omega (arith, length-append c.loop-n.yielded ((c.in-Some.n, c.in-Some.b) ∷ [])))
    (turn_on (length c.loop-n.yielded) c.args.name.now c.args.word.now t.0 t.1 c.cmp-stand.result (cc (t.2 0, t.3 0)) c.loop-n.invariant (cc))

pub returns : goal.returns
returns c =
    let k = zip_end c.args.name.now c.args.word.now c.loop-n.yielded c.into_iter-n-iterator.result c.loop-n.n-iterator c.next.new.self _ (cc) (cc) c.loop-n.yielded_by c.in-None.is c.next.ensures.steps in
    c.cmp.ensures ∙ (sym (lengths_tell (length c.loop-n.yielded) c.args.name.now c.args.word.now k) ∙ c.loop-n.invariant)
