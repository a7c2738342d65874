use Rattle.names.specs.Keywords.{keywords}
use Rattle.fast_names.specs.Named.{named_number}
use Rattle.packed.specs.Numbers.{color_number}
use Rattle.fast_names.specs.Letters.{found, of_length}
use Rattle.fast_names.proofs.Finding.{of_word, names_word, names_three, names_short, names_long, names_none}
use borrow.Author.Rules.{rules}
use Rattle.fast_names.proofs.letters.look_up.Goals as goal

pub returns-in-3 : goal.returns-in-3
returns-in-3 c = search (names_three, c.type_inv.word, rules)

pub returns-in-4 : goal.returns-in-4
returns-in-4 c = search (names_short, c.type_inv.word, rules)

pub returns-in-5 : goal.returns-in-5
returns-in-5 c = search (names_short, c.type_inv.word, rules)

pub returns-in-6 : goal.returns-in-6
returns-in-6 c = search (names_short, c.type_inv.word, rules)

pub returns-in-7 : goal.returns-in-7
returns-in-7 c = search (names_short, c.type_inv.word, rules)

pub returns-in-8 : goal.returns-in-8
returns-in-8 c = search (names_short, c.type_inv.word, rules)

pub returns-in-9 : goal.returns-in-9
returns-in-9 c = search (names_long, c.type_inv.word, rules)

pub returns-in-10 : goal.returns-in-10
returns-in-10 c = search (names_long, c.type_inv.word, rules)

pub returns-in-11 : goal.returns-in-11
returns-in-11 c = search (names_long, c.type_inv.word, rules)

pub returns-in-12 : goal.returns-in-12
returns-in-12 c = search (names_long, c.type_inv.word, rules)

pub returns-in-13 : goal.returns-in-13
returns-in-13 c = search (names_long, c.type_inv.word, rules)

pub returns-in-14 : goal.returns-in-14
returns-in-14 c = search (names_long, c.type_inv.word, rules)

pub returns-in-15 : goal.returns-in-15
returns-in-15 c = search (names_long, c.type_inv.word, rules)

pub returns-in-16 : goal.returns-in-16
unfolding of_word of_length found keywords named_number color_number
returns-in-16 c = search (names_word, rules)

pub returns-in-17 : goal.returns-in-17
unfolding of_word of_length found keywords named_number color_number
returns-in-17 c = search (names_word, rules)

pub returns-in-20 : goal.returns-in-20
unfolding of_word of_length found keywords named_number color_number
returns-in-20 c = search (names_word, rules)

pub returns-in_default : goal.returns-in_default
returns-in_default c = names_none c.args.word.now (search rules)
