use Rattle.std.proofs.Common.{◌≡◌, ◌++◌, drop, string_bytes}
use Rattle.text.specs.Text.{spelled_all}
use Rattle.text.proofs.spelled_out.Given as goal

abbrev pub invariant-loop-b : goal.invariant-loop-b
invariant-loop-b l = string_bytes l.text ++ spelled_all (drop l.b-index l.bytes) ≡ spelled_all l.bytes
