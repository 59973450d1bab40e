-- A queue by what waits in it: a list, the oldest first.
use Rattle.std.specs.Prelude.{ℕ, ◌+◌, ◌-◌, Bool, cond, List, [], ◌∷◌, ◌++◌, length, take, drop, Some, None, Option, nat_lt}
use Rattle.queue.specs.declared.Ring.{Ring}

-- the slots as they come round from a place on; from a place past them, as from 0
abbrev pub round : {X : Type 0} → List X → ℕ → List X
round xs first = drop first xs ++ take first xs

unfoldable pub contents : {X : Type 0} → List X → Ring → List X
contents xs q = take q.used (round xs q.first)

-- nothing waits on it
abbrev pub vacant : Ring
vacant = record { first = 0; used = 0 }

abbrev pub has_room : {X : Type 0} → List X → Ring → Bool
has_room xs q = nat_lt (length (contents xs q)) (length xs)

-- what waits once x is put at the end: the same as before where there is no room
abbrev pub with_one : {X : Type 0} → List X → Ring → X → List X
with_one xs q x = cond (has_room xs q) (contents xs q ++ x ∷ []) (contents xs q)

abbrev pub oldest : {X : Type 0} → List X → Option X
oldest [] = None
oldest (x ∷ xs) = Some x

abbrev pub younger : {X : Type 0} → List X → List X
younger [] = []
younger (x ∷ xs) = xs

-- where the oldest stands, of n slots that are used from the first on
abbrev pub start_of : ℕ → ℕ → ℕ
start_of first n = cond (nat_lt first n) first 0

-- what waits before the end of the slots
abbrev pub ahead : {X : Type 0} → List X → Ring → List X
ahead xs q = take q.used (drop (start_of q.first (length xs)) xs)

-- and where the i-th stands
abbrev pub place_of : ℕ → ℕ → ℕ → ℕ
place_of first n i = cond (nat_lt i (n - start_of first n)) (start_of first n + i) (i - (n - start_of first n))
