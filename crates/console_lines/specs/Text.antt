-- The text of a reply, without its line end.
use Rattle.std.specs.Prelude.{ℕ, List, ◌++◌, codes, decimal}
use Rattle.console_lines.specs.declared.reply.Reply.{Reply}
use Rattle.console_lines.specs.declared.reply.Reply.TheVariants.{Plan, NoPlan, Spent, Full, Did, NotDone, Idle, Refused, Bad, Task}

-- two numbers with a space between
abbrev pub two : ℕ → ℕ → List ℕ
two m n = decimal m ++ (codes " " ++ decimal n)

abbrev pub text : Reply → List ℕ
text (Plan length hill fallback) = codes "plan " ++ (decimal length ++ (codes " " ++ two hill fallback))
text (NoPlan hill fallback) = codes "none " ++ two hill fallback
text (Spent hill fallback) = codes "spent " ++ two hill fallback
text (Full hill fallback) = codes "full " ++ two hill fallback
text (Did action) = codes "did " ++ decimal action
text (NotDone action) = codes "not " ++ decimal action
text Idle = codes "idle"
text (Refused number) = codes "refused " ++ decimal number
text Bad = codes "bad"
text (Task cause record') = codes "task " ++ two cause record'
