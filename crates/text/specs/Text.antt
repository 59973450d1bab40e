-- Numbers and blocks as a person writes and reads them.
use Rattle.std.specs.Prelude.{ℕ, ◌+◌, ◌-◌, ◌*◌, ◌/◌, ◌%◌, min, Bool, true, cond, not, ◌&&◌, List, [], ◌∷◌, ◌++◌, length, replicate, Some, None, codes, Option, ◌==◌, nat_le, nat_lt}

-- whether a byte is a decimal digit
abbrev pub figure : ℕ → Bool
figure b = nat_le 48 b && nat_le b 57

abbrev pub figures : List ℕ → Bool
figures [] = true
figures (b ∷ bs) = figure b && figures bs

-- the value so far with one more digit, held at the largest number of 64 bits
abbrev pub grown : ℕ → ℕ → ℕ
grown value b = min (min (value * 10) 18446744073709551615 + (b - 48)) 18446744073709551615

abbrev pub value : ℕ → List ℕ → ℕ
value v [] = v
value v (b ∷ bs) = value (grown v b) bs

-- a word as a decimal number: one that passes 64 bits stands for the largest
abbrev pub number_of : List ℕ → Option ℕ
number_of [] = None
number_of (b ∷ bs) = cond (figures (b ∷ bs)) (Some (value 0 (b ∷ bs))) None

-- a list without its trailing zeros
abbrev pub joined_to : ℕ → List ℕ → List ℕ
joined_to b [] = cond (b == 0) [] (b ∷ [])
joined_to b (c ∷ cs) = b ∷ c ∷ cs

abbrev pub trimmed_of : List ℕ → List ℕ
trimmed_of [] = []
trimmed_of (b ∷ bs) = joined_to b (trimmed_of bs)

-- a block that is given a text, which is then followed by zeros
abbrev pub filled : List ℕ → List ℕ → List ℕ
filled block text = cond (nat_le (length text) (length block)) (text ++ replicate (length block - length text) 0) block

-- an upper-case hexadecimal digit
abbrev pub hex_digit : ℕ → ℕ
hex_digit d = cond (nat_lt d 10) (48 + d) (55 + d)

abbrev pub plain : ℕ → Bool
plain b = nat_le 32 b && (nat_le b 126 && not (b == 92))

-- a byte that prints as itself, and any other, and a backslash, as \xHH
abbrev pub spelled : ℕ → List ℕ
spelled b = cond (plain b) (b ∷ []) (codes "\\x" ++ (hex_digit (b / 16) ∷ (hex_digit (b % 16) ∷ [])))

abbrev pub spelled_all : List ℕ → List ℕ
spelled_all [] = []
spelled_all (b ∷ bs) = spelled b ++ spelled_all bs

-- the text of a block: its bytes up to the trailing zeros
abbrev pub shown_of : List ℕ → List ℕ
shown_of bs = spelled_all (trimmed_of bs)
