-- The bytes that an answer is written in.
use Rattle.std.specs.Prelude.{ℕ, true, false, List, ◌++◌, Option, Some, None, codes, decimal}
use Rattle.hub.specs.Texts.{hub_text, write_text}
use Rattle.links.specs.Texts.{make_text, switch_text}
use Rattle.matching.specs.Texts.{survey_text}
use Rattle.words.specs.Numbers.{number, layer as layer_of}
use Rattle.words.specs.Texts.{layer_text}
use Rattle.shell.specs.declared.answer.Answer.{Answer}
use Rattle.shell.specs.declared.answer.Answer.TheVariants.{Taken, Test, Number, Nothing, Refused, Fault, NoMemory, Unknown}
use Rattle.shell.specs.declared.answer.Refusal.{Refusal}
use Rattle.shell.specs.declared.answer.Refusal.TheVariants.{Make, Switch, Hub, Write, Survey}
use Rattle.shell.specs.declared.commissioning.Response.{Response}
use Rattle.shell.specs.declared.commissioning.Response.TheVariants as response
use Rattle.commands.specs.Texts.{missing_text}
use Rattle.shell.specs.Answers.{refusal_number}

-- any refusal in words
abbrev pub refusal_text : Refusal → List ℕ
refusal_text (Make e) = make_text e
refusal_text (Switch e) = switch_text e
refusal_text (Hub e) = hub_text e
refusal_text (Write e) = write_text e
refusal_text (Survey e) = survey_text e

-- an answer, without the newline behind it
abbrev pub answer_text : Answer → List ℕ
answer_text Taken = codes "taken"
answer_text (Test true) = codes "taken yes"
answer_text (Test false) = codes "taken no"
answer_text (Number n) = codes "taken " ++ decimal n
answer_text Nothing = codes "none"
answer_text (Refused e) = codes "refused " ++ (decimal (refusal_number e) ++ (codes " " ++ refusal_text e))
answer_text (Fault f) =
    codes "fault " ++ (decimal (number f.cause) ++ (codes " place " ++ (decimal f.place ++ (codes " rule " ++ (decimal f.rule ++ (codes " layer " ++ layer_text (layer_of f.cause)))))))
answer_text NoMemory = codes "refused for want of memory"
answer_text (Unknown m) = codes "unknown " ++ missing_text m

-- what a call to the hub gives: an answer as any other; of words it says nothing
abbrev pub response_text : Response → Option (List ℕ)
response_text (response.Answer a) = Some (answer_text a)
response_text (response.Words ws) = None
