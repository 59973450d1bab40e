-- What holds of every link holds of each make.
use Rattle.std.specs.Prelude.{◌≡◌, ℕ, ◌<◌, ◌≤◌, Bool, List, [], ◌∷◌, ◌++◌, length, refl}
use Rattle.std.proofs.Common.{sym, subst, ⊎_elim, arith}
use Rattle.std.proofs.lemmas.Bool.{le-leb, lt-leb, cases_lt, cond-true, cond-false}
use Rattle.std.proofs.lemmas.List.{length-map, length-take-le, length-append}
use Rattle.std.proofs.ByRecursion.{All-map, All-append}
use Rattle.std.specs.List.{AllByRecursion}
use Rattle.queue.specs.declared.Ring.{Ring}
use Rattle.queue.specs.Queue.{contents}
use Rattle.queue.proofs.Rounds.{contents-within}
use Rattle.link.specs.declared.Way.{Way}
use Rattle.link.specs.declared.Way.TheVariants.{ZeroToOne, OneToZero}
use Rattle.link.specs.declared.frame.Frame.{Frame}
use Rattle.link.specs.declared.lanes.Lanes.{Lanes}
use Rattle.link.specs.Channel.{Channel, Ways, Sound, SoundChannel, IsFrame, queued, waiting}
use Rattle.link.specs.Makes.{bytes_of, frames_of, ways_of, slot_channel, behind, extended, hop_channel}

pub bytes_length : (f : Frame) → length (bytes_of f) ≡ f.len
bytes_length f = length-take-le _ _ (omega (arith, f.within, f.whole))

pub frame_sized : (f : Frame) → IsFrame (bytes_of f)
frame_sized f = (omega (arith, bytes_length f, f.some), omega (arith, bytes_length f, f.within))

pub frames_sized : (fs : List Frame) → AllByRecursion (λ f. IsFrame (bytes_of f)) fs
frames_sized [] = tt
frames_sized (f ∷ fs) = (frame_sized f, frames_sized fs)

pub ring_sized : (slots : List Frame) (ring : Ring) → AllByRecursion IsFrame (frames_of slots ring)
ring_sized slots ring = All-map IsFrame bytes_of _ (frames_sized (contents slots ring))

pub ways_sized : {n : ℕ} (l : Lanes n) (y : Way) → AllByRecursion IsFrame (queued (ways_of l) y)
ways_sized l ZeroToOne = ring_sized l.ahead.frames l.ahead.ring
ways_sized l OneToZero = ring_sized l.back.frames l.back.ring

pub ring_within : (slots : List Frame) (ring : Ring) (n : ℕ) → length slots ≡ n → length (frames_of slots ring) ≤ n
ring_within slots ring n e = omega (arith, length-map (contents slots ring) bytes_of, contents-within slots ring)

pub ways_within : {n : ℕ} (l : Lanes n) (y : Way) → length (queued (ways_of l) y) ≤ n
ways_within l ZeroToOne = ring_within l.ahead.frames l.ahead.ring _ l.ahead.places
ways_within l OneToZero = ring_within l.back.frames l.back.ring _ l.back.places

pub behind-queued : (p q : Ways) (y : Way) → queued (behind p q) y ≡ queued p y ++ queued q y
behind-queued p q ZeroToOne = refl
behind-queued p q OneToZero = refl

pub hop_low : (c : Channel) (q : Ways) → c.capacity ≤ 999996 → hop_channel c q ≡ extended c q
unfolding hop_channel
hop_low c q h = cond-true _ _ _ (le-leb _ _ h)

pub hop_high : (c : Channel) (q : Ways) → 999996 < c.capacity → hop_channel c q ≡ c
unfolding hop_channel
hop_high c q h = cond-false _ _ _ (lt-leb _ _ h)

pub extended_sound : (c : Channel) (q : Ways) → Sound c → c.capacity ≤ 999996 → ((y : Way) → length (queued q y) ≤ 4) → ((y : Way) → AllByRecursion IsFrame (queued q y))
    → Sound (extended c q)
extended_sound c q s h k a =
    record {
      least = omega (arith, s.least);
      most = omega (arith, h);
      within = λ y. rw behind-queued (simp length-append (omega (arith, s.within y, k y)));
      frames = λ y. rw behind-queued (All-append IsFrame (waiting c y) (queued q y) (s.frames y) (a y));
    }

pub hop_sound : (c : Channel) (q : Ways) → Sound c → ((y : Way) → length (queued q y) ≤ 4) → ((y : Way) → AllByRecursion IsFrame (queued q y)) → Sound (hop_channel c q)
hop_sound c q s k a =
    ⊎_elim
    (λ h. subst Sound (sym (hop_high c q h)) s)
    (λ h. subst Sound (sym (hop_low c q h)) (extended_sound c q s h k a))
    (cases_lt 999996 c.capacity)

abbrev pub slot_means : Bool → Lanes 8 → SoundChannel
slot_means is_open lanes =
    record {
      channel = slot_channel is_open lanes;
      sound = record { least = omega arith; most = omega arith; within = ways_within lanes; frames = ways_sized lanes };
    }

abbrev pub hop_means : SoundChannel → Lanes 4 → SoundChannel
hop_means lower lanes =
    record {
      channel = hop_channel lower.channel (ways_of lanes);
      sound = hop_sound lower.channel (ways_of lanes) lower.sound (ways_within lanes) (ways_sized lanes);
    }
