-- What one word says.
use Rattle.std.specs.Prelude.{ℕ, ◌+◌, ◌*◌, ◌/◌, ◌%◌, ◌^◌, cond, ◌&&◌, Some, None, Ok, Err, Option, Result, ◌==◌, nat_lt}
use Rattle.words.specs.declared.items.Kind.{Kind}
use Rattle.words.specs.declared.items.Kind.TheVariants as kind
use Rattle.words.specs.declared.items.PatternLink.{PatternLink}
use Rattle.words.specs.declared.items.Target.{Target}
use Rattle.words.specs.declared.items.Target.TheVariants.{Variable, Mark}
use Rattle.words.specs.declared.items.Share.{Share}
use Rattle.words.specs.declared.items.Share.TheVariants.{New, With, Neither}
use Rattle.words.specs.declared.items.Item.{Item}
use Rattle.words.specs.declared.items.Item.TheVariants.{Opens, Link, Bans, Shares, StrikesNeed, StrikesThing, Makes, Ends}
use Rattle.words.specs.declared.faults.WordFault.{WordFault}

-- the number of each kind
abbrev pub kind_number : Kind → ℕ
kind_number kind.Opens = 1
kind_number kind.LinkToVariable = 2
kind_number kind.LinkToMark = 3
kind_number kind.Bans = 4
kind_number kind.Shares = 5
kind_number kind.StrikesNeed = 6
kind_number kind.StrikesThing = 7
kind_number kind.Makes = 8
kind_number kind.Ends = 9

-- the kind that has the number, if one has
abbrev pub kind_numbered : ℕ → Option Kind
kind_numbered k =
    cond (k == 1) (Some kind.Opens)
    (cond (k == 2) (Some kind.LinkToVariable)
    (cond (k == 3) (Some kind.LinkToMark)
    (cond (k == 4) (Some kind.Bans)
    (cond (k == 5) (Some kind.Shares)
    (cond (k == 6) (Some kind.StrikesNeed)
    (cond (k == 7) (Some kind.StrikesThing)
    (cond (k == 8) (Some kind.Makes)
    (cond (k == 9) (Some kind.Ends)
    None))))))))

-- the kind of a word, by its bits 31 to 28
abbrev pub kind_of : ℕ → Option Kind
kind_of word = kind_numbered (word / 2 ^ 28)

-- the ban variable that two bytes say: new, the rule's variable, or neither of these
abbrev pub share_by : ℕ → ℕ → Share
share_by shared variable = cond (shared == 0 && variable == 0) New (cond (shared == 1) (With variable) (Neither (shared * 256 + variable)))

-- the two bytes of a ban variable
abbrev pub share_number : Share → ℕ
share_number New = 0
share_number (With v) = 256 + v
share_number (Neither n) = n

-- what a word says, by its kind and its other bits
abbrev pub said : ℕ → ℕ → ℕ → Result Item WordFault
said word kind rest =
    cond (kind == 1 && nat_lt rest 256) (Ok (Opens (rest % 256)))
    (cond (kind == 2 && nat_lt rest 16777216) (Ok (Link (record { label = rest / 65536; source = rest / 256 % 256; target = Variable (rest % 256) })))
    (cond (kind == 3 && nat_lt rest 16777216) (Ok (Link (record { label = rest / 65536; source = rest / 256 % 256; target = Mark (rest % 256) })))
    (cond (kind == 4 && nat_lt rest 256) (Ok (Bans (rest % 256)))
    (cond (kind == 5 && nat_lt rest 65536) (Ok (Shares (share_by (rest / 256 % 256) (rest % 256))))
    (cond (kind == 6 && nat_lt rest 256) (Ok (StrikesNeed (rest % 256)))
    (cond (kind == 7 && nat_lt rest 256) (Ok (StrikesThing (rest % 256)))
    (cond (kind == 8 && nat_lt rest 256) (Ok (Makes (rest % 256)))
    (cond (kind == 9 && nat_lt rest 1) (Ok Ends)
    (Err (record { word = word }))))))))))

-- what a word says, or its fault
abbrev pub item_of : ℕ → Result Item WordFault
item_of word = said word (word / 2 ^ 28) (word % 268435456)

-- the number of a link's far end, and where its kind begins
abbrev pub target_number : Target → ℕ
target_number (Variable v) = v
target_number (Mark m) = m

-- where the kind of a link with such a far end begins
abbrev pub target_kind : Target → ℕ
target_kind (Variable v) = 536870912
target_kind (Mark m) = 805306368

-- the word of an item
abbrev pub word_of : Item → ℕ
word_of (Opens n) = 268435456 + n
word_of (Link l) = target_kind l.target + (l.label * 65536 + (l.source * 256 + target_number l.target))
word_of (Bans n) = 1073741824 + n
word_of (Shares s) = 1342177280 + share_number s
word_of (StrikesNeed n) = 1610612736 + n
word_of (StrikesThing n) = 1879048192 + n
word_of (Makes n) = 2147483648 + n
word_of Ends = 2415919104

-- the link of a link's word, and the ban variable of its word: a reading of the fields of any word
abbrev pub link_of : ℕ → PatternLink
link_of w = record { label = w / 65536 % 256; source = w / 256 % 256; target = cond (w / 2 ^ 28 == 3) (Mark (w % 256)) (Variable (w % 256)) }

-- the ban variable of a word, as its fields say
abbrev pub share_of : ℕ → Share
share_of w = share_by (w / 256 % 256) (w % 256)
