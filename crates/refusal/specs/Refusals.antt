-- The number and the name of every refusal, as docs/REFUSALS.md lists them.
use Rattle.std.specs.Prelude.{ℕ, List, [], ◌++◌, codes, decimal}
use Rattle.refusal.specs.declared.Refusal.{Refusal}
use Rattle.refusal.specs.declared.Refusal.TheVariants.{Node, Measure, Block, Word, Meta, Frame, Down, Up, Held, Role, Inconsistent, Busy, Way, Records, Slots, Nothing, Waiting, Spent, Founded, Order, Died, Split, Unrelated, Blank, NoSource}

abbrev pub number_of : Refusal → ℕ
number_of Node = 1
number_of Measure = 2
number_of Block = 3
number_of Word = 4
number_of (Meta node block byte) = 5
number_of (Frame byte) = 6
number_of Down = 8
number_of Up = 9
number_of Held = 10
number_of Role = 11
number_of Inconsistent = 12
number_of Busy = 13
number_of Way = 15
number_of Records = 16
number_of Slots = 17
number_of Nothing = 18
number_of Waiting = 19
number_of Spent = 20
number_of Founded = 21
number_of Order = 22
number_of Died = 23
number_of Split = 24
number_of Unrelated = 25
number_of Blank = 26
number_of NoSource = 27

abbrev pub name_of : Refusal → List ℕ
name_of Node = codes "Node"
name_of Measure = codes "Measure"
name_of Block = codes "Block"
name_of Word = codes "Word"
name_of (Meta node block byte) = codes "Meta"
name_of (Frame byte) = codes "Frame"
name_of Down = codes "Down"
name_of Up = codes "Up"
name_of Held = codes "Held"
name_of Role = codes "Role"
name_of Inconsistent = codes "Inconsistent"
name_of Busy = codes "Busy"
name_of Way = codes "Way"
name_of Records = codes "Records"
name_of Slots = codes "Slots"
name_of Nothing = codes "Nothing"
name_of Waiting = codes "Waiting"
name_of Spent = codes "Spent"
name_of Founded = codes "Founded"
name_of Order = codes "Order"
name_of Died = codes "Died"
name_of Split = codes "Split"
name_of Unrelated = codes "Unrelated"
name_of Blank = codes "Blank"
name_of NoSource = codes "NoSource"

-- where in a card or a frame the fault lies
abbrev pub place_of : Refusal → List ℕ
place_of (Meta node block byte) = codes " node " ++ (decimal node ++ (codes " block " ++ (decimal block ++ (codes " byte " ++ decimal byte))))
place_of (Frame byte) = codes " byte " ++ decimal byte
place_of Node = []
place_of Measure = []
place_of Block = []
place_of Word = []
place_of Down = []
place_of Up = []
place_of Held = []
place_of Role = []
place_of Inconsistent = []
place_of Busy = []
place_of Way = []
place_of Records = []
place_of Slots = []
place_of Nothing = []
place_of Waiting = []
place_of Spent = []
place_of Founded = []
place_of Order = []
place_of Died = []
place_of Split = []
place_of Unrelated = []
place_of Blank = []
place_of NoSource = []

-- an answer as it is told
abbrev pub text_of : Refusal → List ℕ
text_of r = codes "refused " ++ (decimal (number_of r) ++ (codes " " ++ (name_of r ++ place_of r)))
