-- A frame that goes from a hop to its lower link.
use Rattle.std.proofs.Common.{◌≡◌, ℕ, ◌+◌, ◌<◌, ◌≤◌, List, [], ◌∷◌, length, Some, sym, refl, ap, append_assoc, arith}
use Rattle.queue.specs.Queue.{oldest, younger}
use Rattle.link.specs.declared.Way.{Way}
use Rattle.link.specs.declared.Way.TheVariants.{ZeroToOne, OneToZero}
use Rattle.link.specs.declared.frame.Frame.{Frame}
use Rattle.link.specs.Channel.{Channel, Ways, queued, one_more, one_less, waiting, sent}
use Rattle.link.specs.Makes.{bytes_of, behind, Shifted}
use Rattle.link.specs.Soundness.{frame_sized}
use Rattle.link.proofs.Sends.{send_done}

pub oldest_some : (fs : List (List ℕ)) (f : List ℕ) → Some f ≡ oldest fs → f ∷ younger fs ≡ fs
oldest_some [] f e = absurd cc
oldest_some (g ∷ fs) f e = let i : f ≡ g = cc in ap (λ (z : List ℕ). z ∷ fs) i

pub behind_shifted : (a q : Ways) (y : Way) (f : List ℕ) → f ∷ younger (queued q y) ≡ queued q y
    → behind (one_more a y f) (one_less q y) ≡ behind a q
behind_shifted a q ZeroToOne f e = rw (append_assoc, e)
behind_shifted a q OneToZero f e = rw (append_assoc, e)

pub queued_less : (q : Ways) (y : Way) → queued (one_less q y) y ≡ younger (queued q y)
queued_less q ZeroToOne = refl
queued_less q OneToZero = refl

-- the oldest of the hop's own, at most four, goes to the lower link, which has room
pub shifted : (c x : Channel) (p q : Ways) (y : Way) (g : Frame) (b : List ℕ) → length (waiting c y) < c.capacity → length (queued q y) ≤ 4
    → Some (bytes_of g) ≡ oldest (queued q y) → p ≡ one_less q y → b ≡ bytes_of g → x ≡ sent c y b → Shifted c q y x p
shifted c x p q y g b l h a d e m =
    let all = oldest_some (queued q y) (bytes_of g) a in
    let F : Ways → Channel = λ z. record { is_open = c.is_open; waits = z; capacity = c.capacity + 4 } in
    record {
      same = λ o. rw (m, e, sym (send_done c y (bytes_of g) (frame_sized g) o l).1, d) (ap F (behind_shifted c.waits q y (bytes_of g) all));
      room = λ _ _. omega (arith, ap length all, ap (λ (z : Ways). length (queued z y)) d, ap length (queued_less q y));
    }
