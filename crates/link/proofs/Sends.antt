-- The cases of a send, over every channel.
use Rattle.std.proofs.Common.{◌≡◌, ℕ, ◌<◌, true, false, cond, List, length, is_ok, Ok, refl}
use Rattle.std.proofs.lemmas.Bool.{lt-ltb}
use Rattle.std.proofs.lemmas.Bool.Decides.{nat_tests}
use Rattle.std.proofs.Common.{arith}
use Rattle.link.specs.declared.Way.{Way}
use Rattle.link.specs.Channel.{Channel, IsFrame, is_frame, one_more, holding, waiting, send_answer, sent}

is_frame_lem : (f : List ℕ) → IsFrame f → is_frame f ≡ true
is_frame_lem f h = let a = h.0 in let b = h.1 in grind (arith, nat_tests)

pub send_done : (c : Channel) (y : Way) (f : List ℕ) → IsFrame f → c.is_open ≡ true → length (waiting c y) < c.capacity
    → (Ok tt ≡ send_answer c y f) × (holding c (one_more c.waits y f) ≡ sent c y f)
unfolding send_answer sent
send_done c y f h o l = let e = is_frame_lem f h in let t = lt-ltb (length (waiting c y)) c.capacity l in (simp (e, o, t), simp (e, o, t))

-- a send leaves the capacity as it is
pub sent_capacity : (c : Channel) (y : Way) (f : List ℕ) → (sent c y f).capacity ≡ c.capacity
unfolding sent
sent_capacity c y f =
    elim (is_ok (send_answer c y f)) as (λ b. (cond b (holding c (one_more c.waits y f)) c).capacity ≡ c.capacity) [ true ↦ refl | false ↦ refl ]
