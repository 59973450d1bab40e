use Rattle.std.proofs.Common.{◌≡◌, ℕ, ◌<◌, ltb, List, length, IfSome, Some, None, Option, is_some, sym, ap, ◌∙◌, rules}
use Rattle.std.proofs.lemmas.Bool.{ltb-true, ltb-false}
use Rattle.std.proofs.lemmas.Option.{slice_get_past}
use Rattle.std.specs.List.{slice_get}
use Rattle.queue.proofs.Rounds.{look_done}
use Rattle.queue.proofs.Ring.look.Goals as goal

then_is : {X : Type 0} (o : Option X) (xs : List X) (i : ℕ) (P : X → Type 0) → is_some o ≡ ltb i (length xs) → IfSome o P → ((x : X) → i < length xs → P x → Some x ≡ slice_get xs i) → o ≡ slice_get xs i
then_is None xs i P e h f = sym (slice_get_past xs i (ltb-false _ _ (sym e)))
then_is (Some x) xs i P e h f = f x (ltb-true _ _ (sym e)) h

pub returns : goal.returns
returns g c = then_is _ _ _ _ (c.then.ensures.variant ∙ ap (ltb c.args.i) c.count.ensures.all) c.then.ensures.some (λ x h k. search (rules, look_done))
