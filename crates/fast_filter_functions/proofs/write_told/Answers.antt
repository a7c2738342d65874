-- the three names of eleven bytes and more: `grind`, which proves the others by the attribute, stops there at its limit of instances
use mathlib.Core.Path.{sym}
use Rattle.fast_filter_functions.proofs.Laws.{degrees_told, brightness_told}
use Rattle.fast_filter_functions.proofs.Shaded.{shadow_told}
use Rattle.fast_filter_functions.proofs.write_told.Goals as goal

pub write_closed-requires-in-100 : goal.write_closed-requires-in-100
write_closed-requires-in-100 c = rw c.drop_shadow.ensures (shadow_told c.args.text.now c.args.at.0 (sym c.if-starts_with-2.ensures))

pub write_closed-requires-in-104 : goal.write_closed-requires-in-104
write_closed-requires-in-104 c = rw c.hue_rotate.ensures (degrees_told c.args.text.now c.args.at.0 (sym c.if-starts_with-3.ensures))

pub write_closed-requires-in-98-2 : goal.write_closed-requires-in-98-2
write_closed-requires-in-98-2 c = rw c.plain.ensures (brightness_told c.args.text.now c.args.at.0 (sym c.if-starts_with-5.ensures))
