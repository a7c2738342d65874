use Rattle.std.specs.Prelude.{Some}
use borrow.Author.Rules.{rules}
use Rattle.names.specs.Back.{name_over}
use Rattle.set_back.specs.Texts.{short_text, long_text}
use Rattle.set_back.proofs.Readings.{short_back, long_back}
use Rattle.set_back.proofs.Settling.{promised}
use Rattle.set_back.proofs.hex.Goals as goal

pub returns-then-is_doubled-clause-reads_back : goal.returns-then-is_doubled-clause-reads_back
unfolding name_over
returns-then-is_doubled-clause-reads_back c =
    let x = c.args.color in
    promised (Some (short_text x)) x c.args.out.now (short_back x (record { red = search rules; green = search rules; blue = search rules; alpha = search rules }) (cc)) c.short_hex.ensures.value c.short_hex.ensures.out_after

pub returns-clause-reads_back : goal.returns-clause-reads_back
unfolding name_over
returns-clause-reads_back c =
    let x = c.args.color in
    promised (Some (long_text x)) x c.args.out.now (long_back x (record { red = search rules; green = search rules; blue = search rules; alpha = search rules })) c.long_hex.ensures.value c.long_hex.ensures.out_after
