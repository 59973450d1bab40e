-- What one node's generations say of another's.
use Rattle.std.specs.Prelude.{ℕ, Bool, true, false, not, ◌&&◌, ◌||◌, ◌==◌}
use Rattle.compare.specs.declared.side.Role.{Role}
use Rattle.compare.specs.declared.side.Role.TheVariants.{Primary, Secondary}
use Rattle.compare.specs.declared.side.Side.{Side}

abbrev pub is_primary : Role → Bool
is_primary Primary = true
is_primary Secondary = false

abbrev pub role_where : Bool → Role
role_where true = Primary
role_where false = Secondary

-- the card never held a generation
abbrev pub blank : Side → Bool
blank a = a.current == 0

abbrev pub same_current : Side → Side → Bool
same_current a b = a.current == b.current

-- a's bitmap marks all that a wrote since b's generation
abbrev pub tracks : Side → Side → Bool
tracks a b = b.current == a.bitmap

-- a went on from b's generation, longer ago than its bitmap reaches
abbrev pub remembers : Side → Side → Bool
remembers a b = b.current == a.recent || b.current == a.older

abbrev pub same_bitmap : Side → Side → Bool
same_bitmap a b = a.bitmap == b.bitmap && not (a.bitmap == 0)

-- g is a generation that a left behind
abbrev pub left_behind : ℕ → Side → Bool
left_behind g a = not (g == 0) && (g == a.bitmap || (g == a.recent || g == a.older))

abbrev pub shares_ancestor : Side → Side → Bool
shares_ancestor a b = left_behind a.bitmap b || (left_behind a.recent b || left_behind a.older b)

-- a Secondary takes the blocks of a consistent node
abbrev pub can_take : Side → Side → Bool
can_take target source = not (is_primary target.role) && source.consistent
