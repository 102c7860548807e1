-- The command that a line writes.
use Rattle.std.specs.Prelude.{ℕ, Bool, true, false, cond, List, [], ◌∷◌, length, Some, None, Ok, Err, codes, Option, Result, ◌==◌}
use Rattle.std.specs.Option.{option_map, ok_or}
use Rattle.std.specs.Str.{bytes_eq}
use Rattle.links.specs.declared.link.Link.{Link}
use Rattle.commands.specs.declared.command.Call.TheVariants as call
use Rattle.commands.specs.declared.command.Command.{Command}
use Rattle.commands.specs.declared.command.Command.TheVariants.{Make, Use, Settle, Hub}
use Rattle.commands.specs.declared.command.HubCall.TheVariants as hub_call
use Rattle.commands.specs.declared.command.Kind.{Kind}
use Rattle.commands.specs.declared.command.Kind.TheVariants.{List as InList, Bits as InBits}
use Rattle.commands.specs.declared.command.Missing.{Missing}
use Rattle.commands.specs.declared.command.Missing.TheVariants as missing
use Rattle.commands.specs.declared.command.Question.{Question}
use Rattle.commands.specs.declared.command.Survey.{Survey}
use Rattle.commands.specs.declared.command.Wanted.{Wanted}
use Rattle.commands.specs.declared.command.WantedHub.{WantedHub}
use Rattle.commands.specs.Words.{after_word, decimal, first_word}
use Rattle.commands.specs.Parts.{link_from}

-- what is read after a part, if the part was read
abbrev pub then : {X Y : Type 0} → Result X Missing → (X → Result Y Missing) → Result Y Missing
then (Ok x) f = f x
then (Err e) f = Err e

-- the value that a word names in a table
abbrev pub named : {X : Type 0} → List ℕ → List (List ℕ × X) → Option X
named word [] = None
named word (entry ∷ entries) = cond (bytes_eq word entry.0) (Some entry.1) (named word entries)

-- the kind of store that a word names
abbrev pub kind_of : List ℕ → Option Kind
kind_of word = named word ((codes "list", InList) ∷ (codes "bits", InBits) ∷ [])

-- what was read, and the bytes behind it
abbrev pub with_rest : {X : Type 0} → List ℕ → Result X Missing → Result (X × List ℕ) Missing
with_rest rest (Ok x) = Ok (x, rest)
with_rest rest (Err e) = Err e

-- the number that the first word writes, and what follows the word
abbrev pub number_in : List ℕ → Result (ℕ × List ℕ) Missing
number_in bs = ok_or (option_map (λ n. (n, after_word bs)) (decimal (first_word bs))) missing.Number

-- no word is left
abbrev pub end_of : List ℕ → Result (Unit {0}) Missing
end_of bs = cond (length (first_word bs) == 0) (Ok tt) (Err missing.End)

-- one word, a link
abbrev pub link_in : List ℕ → Result Link Missing
link_in bs = then (ok_or (link_from (first_word bs)) missing.Link) (λ l. then (end_of (after_word bs)) (λ _. Ok l))

-- three words, numbers
abbrev pub three_in : List ℕ → Result (ℕ × ℕ × ℕ) Missing
three_in bs =
    then (number_in bs) (λ n. then (number_in n.1) (λ b. then (number_in b.1) (λ f. then (end_of f.1) (λ _. Ok (n.0, b.0, f.0)))))

-- three words, the numbers of a question
abbrev pub question_in : List ℕ → Result Question Missing
question_in bs = then (three_in bs) (λ n. Ok (record { node = n.0; label = n.1; from = n.2 }))

-- one word, a number, or none
abbrev pub memory_in : List ℕ → Result (Option ℕ) Missing
memory_in bs = cond (length (first_word bs) == 0) (Ok None) (then (number_in bs) (λ n. then (end_of n.1) (λ _. Ok (Some n.0))))

-- the words of a wanted store: its kind, its sizes, and its memory or nothing
abbrev pub store_in : Bool → List ℕ → Result Wanted Missing
store_in held bs =
    then (ok_or (kind_of (first_word bs)) missing.Kind) (λ k. then (number_in (after_word bs)) (λ t. then (number_in t.1) (λ m. then (memory_in m.1) (λ s. Ok (record { held = held; kind = k; things = t.0; limit = m.0; memory = s })))))

-- the same behind the word `held`, which asks for a layer that holds changes
abbrev pub wanted_in : List ℕ → Result Wanted Missing
wanted_in bs = cond (bytes_eq (first_word bs) (codes "held")) (store_in true (after_word bs)) (store_in false bs)

-- three words, the numbers of a hub
abbrev pub wanted_hub_in : List ℕ → Result WantedHub Missing
wanted_hub_in bs = then (three_in bs) (λ n. Ok (record { plate = n.0; life = n.1; rows = n.2 }))

-- one word, the room of a buffer
abbrev pub write_in : List ℕ → Result ℕ Missing
write_in bs = then (number_in bs) (λ n. then (end_of n.1) (λ _. Ok n.0))

-- a rule, and the room of a buffer or nothing
abbrev pub survey_in : List ℕ → Result Survey Missing
survey_in bs = then (number_in bs) (λ n. then (memory_in n.1) (λ m. Ok (record { rule = n.0; room = m })))

-- what reads the words behind each first word; those of a rule set are read later
abbrev pub readers : List (List ℕ × (List ℕ → Result Command Missing))
readers =
    (codes "store", λ bs. then (wanted_in bs) (λ w. Ok (Make w)))
    ∷ (codes "settle", λ bs. then (end_of bs) (λ _. Ok Settle))
    ∷ (codes "hub", λ bs. then (wanted_hub_in bs) (λ h. Ok (Hub (hub_call.Commission h))))
    ∷ (codes "rules", λ bs. Ok (Hub hub_call.Rules))
    ∷ (codes "write", λ bs. then (write_in bs) (λ n. Ok (Hub (hub_call.Write n))))
    ∷ (codes "survey", λ bs. then (survey_in bs) (λ s. Ok (Hub (hub_call.Survey s))))
    ∷ (codes "on", λ bs. then (link_in bs) (λ l. Ok (Use (call.On l))))
    ∷ (codes "off", λ bs. then (link_in bs) (λ l. Ok (Use (call.Off l))))
    ∷ (codes "is", λ bs. then (link_in bs) (λ l. Ok (Use (call.Is l))))
    ∷ (codes "target", λ bs. then (question_in bs) (λ q. Ok (Use (call.Target q))))
    ∷ (codes "source", λ bs. then (question_in bs) (λ q. Ok (Use (call.Source q))))
    ∷ (codes "count", λ bs. then (end_of bs) (λ _. Ok (Use call.Count)))
    ∷ (codes "spare", λ bs. then (end_of bs) (λ _. Ok (Use call.Spare)))
    ∷ []

-- what the reader of a word reads, or that there is no such word
abbrev pub command_in : Option (List ℕ → Result Command Missing) → List ℕ → Result Command Missing
command_in (Some read) bs = read bs
command_in None bs = Err missing.Command

-- the command that a line writes, or why it writes none
abbrev pub command_of : List ℕ → Result Command Missing
command_of bs = command_in (named (first_word bs) readers) (after_word bs)
