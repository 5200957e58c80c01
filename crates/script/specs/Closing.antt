-- The closing calls of a script by their names: what follows, and whether confirmation is asked.
-- Assumes nothing.
use Rattle.std.specs.Prelude.{Bool, true, false}
use Rattle.header.specs.declared.Follows.TheVariants.{Stay, ChangeDirection, EndBracket}
use Rattle.script.specs.declared.Verb.{Verb}
use Rattle.script.specs.declared.Verb.TheVariants.{Close}

abbrev pub flush : Verb
flush = Close Stay false

abbrev pub confirm : Verb
confirm = Close Stay true

-- turn
abbrev pub prepare_to_receive : Bool → Verb
prepare_to_receive asked = Close ChangeDirection asked

-- end
abbrev pub deallocate : Bool → Verb
deallocate asked = Close EndBracket asked
