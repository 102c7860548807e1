-- Words, numbers and links in the bytes of a line.
use Rattle.std.specs.Prelude.{ℕ, ◌+◌, ◌-◌, ◌*◌, ◌%◌, ◌^◌, Bool, true, cond, not, ◌&&◌, ◌||◌, List, [], ◌∷◌, length, take, drop, Some, None, fold, Option, ◌==◌, nat_le, nat_lt, slice_index}
use Rattle.std.specs.Option.{option_map}
use Rattle.std.specs.List.{prefix_len}
use Rattle.commands.specs.declared.words.Class.{Class}
use Rattle.commands.specs.declared.words.Class.TheVariants.{Blank, NonBlank, NonDash}

-- space, tab and carriage return
abbrev pub blank : ℕ → Bool
blank b = b == 32 || (b == 9 || b == 13)

-- what a word is made of
abbrev pub visible : ℕ → Bool
visible b = not (blank b)

-- what may stand before the first dash
abbrev pub dashless : ℕ → Bool
dashless b = not (b == 45)

-- a blank; no blank; no dash
abbrev pub within : Class → ℕ → Bool
within Blank b = blank b
within NonBlank b = visible b
within NonDash b = dashless b

-- how many bytes in front are of the class
abbrev pub run : Class → List ℕ → ℕ
run k bs = prefix_len (within k) bs

-- a line without the blanks in front
abbrev pub trimmed : List ℕ → List ℕ
trimmed bs = drop (prefix_len blank bs) bs

-- the first word of a line, empty where there is none
abbrev pub first_word : List ℕ → List ℕ
first_word bs = take (prefix_len visible (trimmed bs)) (trimmed bs)

-- what follows the first word
abbrev pub after_word : List ℕ → List ℕ
after_word bs = drop (prefix_len visible (trimmed bs)) (trimmed bs)

-- the first word of a line, if it has one
abbrev pub next_word : List ℕ → Option (List ℕ)
next_word bs = cond (length (first_word bs) == 0) None (Some (first_word bs))

-- the digits from 0 to 9
abbrev pub is_digit : ℕ → Bool
is_digit b = nat_le 48 b && nat_le b 57

-- the number that a digit behind one already read makes, if it stays below 2 ^ 32
abbrev pub with_digit : ℕ → ℕ → Option ℕ
with_digit v b = cond (is_digit b && nat_lt (v * 10 + (b - 48)) (2 ^ 32)) (Some (v * 10 + (b - 48))) None

-- each byte is a digit
abbrev pub all_digits : List ℕ → Bool
all_digits [] = true
all_digits (b ∷ bs) = is_digit b && all_digits bs

-- the value of digits, the highest first
abbrev pub value : List ℕ → ℕ
value bs = fold (λ v b. v * 10 + (b - 48)) 0 bs

-- a number: one or more digits, with a value below 2 ^ 32
abbrev pub decimal : List ℕ → Option ℕ
decimal bs = cond (nat_lt 0 (length bs) && (all_digits bs && nat_lt (value bs) (2 ^ 32))) (Some (value bs)) None

-- the value of a hexadecimal digit, 0 to 9 or A to F
abbrev pub hex_digit : ℕ → Option ℕ
hex_digit b = cond (is_digit b) (Some (b - 48)) (cond (nat_le 65 b && nat_le b 70) (Some (b - 55)) None)

-- the number that a digit makes behind one already read, of which only the 7 lowest digits can stay
abbrev pub with_hex_digit : ℕ → ℕ → Option ℕ
with_hex_digit v b = option_map (λ d. v % 2 ^ 28 * 16 + d) (hex_digit b)

-- the number that bytes make behind one already read, a step for each
abbrev pub read_from : (ℕ → ℕ → Option ℕ) → Option ℕ → List ℕ → Option ℕ
read_from step None bs = None
read_from step (Some v) [] = Some v
read_from step (Some v) (b ∷ bs) = read_from step (step v b) bs

-- a word of 32 bits: 8 hexadecimal digits
abbrev pub hex_word : List ℕ → Option ℕ
hex_word bs = cond (length bs == 8) (read_from with_hex_digit (Some 0) bs) None

-- a line that is passed over: it is empty, has only blanks, or begins with '#'
abbrev pub is_passed : List ℕ → Bool
is_passed bs = prefix_len blank bs == length bs || slice_index bs 0 == 35
