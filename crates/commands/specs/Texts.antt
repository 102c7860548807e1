-- What keeps a line from being a command, in words.
use Rattle.std.specs.Prelude.{ℕ, List, codes}
use Rattle.commands.specs.declared.command.Missing.{Missing}
use Rattle.commands.specs.declared.command.Missing.TheVariants as missing

-- what is missing, in words
abbrev pub missing_text : Missing → List ℕ
missing_text missing.Command = codes "no such command"
missing_text missing.Kind = codes "a store is list or bits"
missing_text missing.Number = codes "a number is missing, decimal and below 4294967296"
missing_text missing.Link = codes "a link is missing, written as 64-1-65"
missing_text missing.End = codes "too many words"
missing_text missing.Store = codes "no store"
missing_text missing.Word = codes "a word is 8 hexadecimal digits in upper case"
missing_text missing.Hub = codes "no hub"
missing_text missing.Layer = codes "no layer that holds changes"
