-- Two outcomes of a piece that both keep feed's promise are one: the state, the tables, both buffers and both counts.
use mathlib.Core.Path.{◌≡◌, sym, ap, ◌∙◌}
use mathlib.Core.List.{List, ◌++◌}
use Prim.Native.Nat.{ℕ, ◌-◌}
use native.Mathlib.Omega.{arith}
use lib.ListN.{length, take, drop, take-append-drop, length-take, length-drop}
use Rattle.meaning.specs.Layout.{Tables}
use Rattle.replay_meaning.specs.Stream.{Live, Fed}
use Rattle.replay_state.specs.declared.State.{State}
use Rattle.replay_state.specs.Held.{Held, held_in, bytes_held}
use Rattle.replay_stream.specs.ReachedLive.{live_of, AfterPiece}

module _ (f : Fed) (h : Held) (piece b : List ℕ)
    {s s₂ : State} {t t₂ : Tables} {line line₂ : List ℕ} {used used₂ : ℕ} {b' b₂ : List ℕ}
    (x : AfterPiece f h s t line piece used b b') (y : AfterPiece f h s₂ t₂ line₂ piece used₂ b b₂) where
  live : live_of s t line b' ≡ live_of s₂ t₂ line₂ b₂
  live = x.taken.live ∙ sym y.taken.live

  pub same_used : used ≡ used₂
  same_used =
      let here : length piece - used ≡ length piece - used₂ =
      sym (length-drop used piece) ∙ (ap length (x.taken.left ∙ sym y.taken.left) ∙ length-drop used₂ piece) in
      omega (arith, here, x.taken.inside, y.taken.inside)

  said : take s.end b' ≡ take s₂.end b₂
  said = ap (λ (l : Live). l.run.said) live

  pub same_end : s.end ≡ s₂.end
  same_end =
      let long : length (take s.end b') ≡ length (take s₂.end b₂) = ap length said in
      let a : length (take s.end b') ≡ s.end = let k = x.taken.fits in simp length-take (omega arith) in
      let c : length (take s₂.end b₂) ≡ s₂.end = let k = y.taken.fits in simp length-take (omega arith) in sym a ∙ (long ∙ c)

  pub same_output : b' ≡ b₂
  same_output =
      sym (take-append-drop s.end b')
      ∙ (ap (λ (l : List ℕ). take s.end b' ++ l) x.taken.kept
      ∙ (ap (λ (l : List ℕ). l ++ drop s.end b) said
      ∙ (ap (λ (n : ℕ). take s₂.end b₂ ++ drop n b) same_end
      ∙ (ap (λ (l : List ℕ). take s₂.end b₂ ++ l) (sym y.taken.kept) ∙ take-append-drop s₂.end b₂))))

  pub same_tables : t ≡ t₂
  same_tables = ap (λ (l : Live). l.run.tables) live

  kept : held_in line s.len ≡ held_in line₂ s₂.len
  kept = x.held ∙ (ap (λ (n : ℕ). bytes_held h (take n piece)) same_used ∙ sym y.held)

  pub same_line : line ≡ line₂
  same_line = ap (λ (k : Held). k.line) kept

  pub same_state : s ≡ s₂
  same_state =
      let at : s.at ≡ s₂.at = ap (λ (l : Live). l.run.at) live in
      let len : s.len ≡ s₂.len = ap (λ (k : Held). k.len) kept in λ i. record { at = at i; len = len i; end = same_end i }
