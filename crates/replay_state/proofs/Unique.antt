-- Two results that both keep the promise of `start`, or of `finish`, are one.
--   start_unique                      the state
--   finish_unique, finish_one_buffer  the answer, and every byte of the output's buffer
use mathlib.Core.Path.{◌≡◌, sym, ◌∙◌}
use mathlib.Core.List.{List}
use Prim.Native.Nat.{ℕ}
use Rattle.replay_state.specs.declared.State.{State}
use Rattle.std.specs.Prelude.{Option}
use Rattle.replay_state.specs.Held.{start_state}
use Rattle.replay_state.specs.Ended.{EndWritten}

pub start_unique : (a b : State) → a ≡ start_state → b ≡ start_state → a ≡ b
start_unique a b h k = h ∙ sym k

module _ (text buffer : List ℕ) {r r₂ : Option ℕ} {b b₂ : List ℕ} (x : EndWritten text buffer r b) (y : EndWritten text buffer r₂ b₂) where
  pub finish_unique : r ≡ r₂
  finish_unique = x.answer ∙ sym y.answer

  pub finish_one_buffer : b ≡ b₂
  finish_one_buffer = x.output ∙ sym y.output
