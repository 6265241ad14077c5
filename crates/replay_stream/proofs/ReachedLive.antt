-- From lines to bytes, and from bytes to a piece.
--   after_line, after_other    what a byte promises: at a line's end, by what the line reached; and at any other byte
--   other_end    a byte that ends no line leaves what was written
--   Feeding    what holds in the middle of a piece; feeding_more, feeding_done, feeding_full: a byte more, and the two ways to stop
--   taken_goes    with room, some of a piece is taken
use mathlib.Core.Path.{◌≡◌, refl, sym, ap, ◌∙◌}
use mathlib.Core.List.{List, [], ◌∷◌}
use Prim.Native.Nat.{ℕ, ◌+◌, ◌-◌, ◌<◌, ◌≤◌}
use native.Mathlib.Numerals.{add-one}
use native.Mathlib.Omega.{arith}
use lib.ListN.{length, take, drop, get_or, length-take, length-drop, drop_of_length-le}
use lib.Seq.{drop-cons, drop-drop}
use borrow.Author.Tests.{le-leb, lt-leb, eq-eqb, ne_eqb}
use Rattle.meaning.specs.Layout.{Tables}
use Rattle.meaning.proofs.Choices.{cond_true, cond_false}
use Rattle.replay_meaning.specs.Run.{Run, line_read}
use Rattle.replay_meaning.proofs.Pieces.{within_goes}
use Rattle.replay_meaning.specs.Stream.{Live, pushed, byte_read, Fed, within}
use Rattle.replay_state.specs.declared.State.{State}
use Rattle.replay_state.specs.Held.{Held, held_in, stored, byte_held}
use Rattle.replay_state.proofs.Stored.{line_held, held_end, held_byte}
use Rattle.replay_lines.specs.Reached.{run_of, Reached}
use Rattle.replay_stream.specs.ReachedLive.{live_of, resumed, ReachedLive, AfterByte, Taken}

module _ (s : State) (t : Tables) (line b : List ℕ) where
  -- what a byte c promises from here
  abbrev Read : ℕ → State → Tables → List ℕ → List ℕ → Type 0
  Read c s' t' line' b' = AfterByte (byte_read (live_of s t line b) c) (byte_held (held_in line s.len) c) s' t' line' b s.end b'

  pub after_line : (c : ℕ) (l : List ℕ) (s' : State) (t' : Tables) {b' : List ℕ} → c ≡ 10 → l ≡ take s.len line
      → Reached (line_read (run_of s.at t b s.end) l) s' t' b s.end b' → Read c s' t' line b'
  unfolding byte_read
  after_line c l s' t' {b'} ten h r =
      let line_is : line_read (run_of s.at t b s.end) l ≡ line_read (run_of s.at t b s.end) (take s.len line) =
      ap (λ (x : List ℕ). line_read (run_of s.at t b s.end) x) h in
      record {
        reached =
            record {
              live =
                  ap (λ (n : ℕ). record { run = run_of s'.at t' b' s'.end; line = take n line; most = length line }) r.none
                  ∙ (ap (λ (x : Run). record { run = x; line = []; most = length line }) (r.run ∙ line_is)
                  ∙ sym (cond_true _ _ _ (eq-eqb c 10 ten)));
              kept = r.kept;
              more = r.more;
              fits = r.fits;
            };
        held = ap (held_in line) r.none ∙ (held_end (held_in line s.len) ∙ ap (byte_held (held_in line s.len)) (sym ten));
      }

  pub after_other : (c len : ℕ) (line' : List ℕ) → (c ≡ 10 → ⊥) → s.end ≤ length b → length line' ≡ length line
      → held_in line' len ≡ stored (held_in line s.len) c → Read c (record { at = s.at; len = len; end = s.end }) t line' b
  unfolding byte_read
  after_other c len line' h k same is =
      let line_is : take len line' ≡ pushed (length line) (take s.len line) c =
      ap (λ (x : Held). take x.len x.line) is ∙ line_held (held_in line s.len) c in
      let run = run_of s.at t b s.end in
      record {
        reached =
            record {
              live =
                  ap (λ (x : List ℕ). record { run = run; line = x; most = length line' }) line_is
                  ∙ (ap (λ (n : ℕ). record { run = run; line = pushed (length line) (take s.len line) c; most = n }) same
                  ∙ sym (cond_false _ _ _ (ne_eqb c 10 h)));
              kept = refl;
              more = omega arith;
              fits = k;
            };
        held = held_byte _ _ c h is;
      }

  -- a byte that ends no line leaves what was written
  pub other_end : (c : ℕ) {s' : State} {t' : Tables} {line' b' : List ℕ} → (c ≡ 10 → ⊥) → s.end ≤ length b
      → ReachedLive (byte_read (live_of s t line b) c) s' t' line' b s.end b' → s'.end ≡ s.end
  unfolding byte_read
  other_end c {s'} {b' = b'} h k r =
      let said : take s'.end b' ≡ take s.end b =
      ap (λ (l : Live). l.run.said) (r.live ∙ cond_false _ _ _ (ne_eqb c 10 h)) in
      let new : length (take s'.end b') ≡ s'.end = let f = r.fits in simp length-take (omega arith) in
      let old : length (take s.end b) ≡ s.end = simp length-take (omega arith) in sym new ∙ (ap length said ∙ old)

-- In the middle of a piece: from here on the rest of it is taken as f says.
pub record Feeding (f : Fed) (size : ℕ) (s : State) (t : Tables) (line b₀ b piece : List ℕ) (used : ℕ) : Type 0 where
  pub going : within size (live_of s t line b) (drop used piece) ≡ f
  pub inside : used ≤ length piece
  pub kept : drop s.end b ≡ drop s.end b₀
  pub fits : s.end ≤ length b
  pub same : length b ≡ size

further : (e e' : ℕ) (x y : List ℕ) → e ≤ e' → drop e x ≡ drop e y → drop e' x ≡ drop e' y
further e e' x y h k =
    let n : e + (e' - e) ≡ e' = omega arith in
    ap (λ (m : ℕ). drop m x) (sym n)
    ∙ (sym (drop-drop (e' - e) e x)
    ∙ (ap (λ (l : List ℕ). drop (e' - e) l) k ∙ (drop-drop (e' - e) e y ∙ ap (λ (m : ℕ). drop m y) n)))

module _ {f : Fed} {size : ℕ} {s : State} {t : Tables} {line b₀ b piece : List ℕ} {used : ℕ}
    (now : Feeding f size s t line b₀ b piece used) where
  written : length (take s.end b) ≡ s.end
  written = let h = now.fits in simp length-take (omega arith)

  next_byte : used < length piece → drop used piece ≡ get_or piece used 0 ∷ drop (used + 1) piece
  next_byte h = rw add-one (drop-cons piece used 0 h)

  pub feeding_more : (s' : State) (t' : Tables) (line' : List ℕ) {b' : List ℕ} → used < length piece → s.end + 128 ≤ length b
      → ReachedLive (byte_read (live_of s t line b) (get_or piece used 0)) s' t' line' b s.end b' → length b' ≡ length b
      → Feeding f size s' t' line' b₀ b' piece (used + 1)
  unfolding within
  feeding_more s' t' line' {b'} h room l same =
      record {
        going =
            ap (λ (x : Live). within size x (drop (used + 1) piece)) l.live
            ∙ (sym (ap (within size (live_of s t line b)) (next_byte h)
            ∙ cond_true _ _ _ (le-leb (length (take s.end b) + 128) size (omega (arith, written, now.same))))
            ∙ now.going);
        inside = omega arith;
        kept = l.kept ∙ further s.end s'.end b b₀ l.more now.kept;
        fits = l.fits;
        same = same ∙ now.same;
      }

  taken : (g : Fed) → within size (live_of s t line b) (drop used piece) ≡ g → g.live ≡ live_of s t line b → g.left ≡ drop used piece
      → Taken f s t line piece used b₀ b
  taken g h live left =
      record {
        live = sym live ∙ ap (λ (x : Fed). x.live) (sym h ∙ now.going);
        left = sym left ∙ ap (λ (x : Fed). x.left) (sym h ∙ now.going);
        inside = now.inside;
        kept = now.kept;
        fits = now.fits;
      }

  pub feeding_done : length piece ≤ used → Taken f s t line piece used b₀ b
  unfolding within
  feeding_done h =
      let none : drop used piece ≡ [] = drop_of_length-le piece h in
      taken (record { live = live_of s t line b; left = [] }) (ap (within size (live_of s t line b)) none) refl (sym none)

  -- with no room, no byte more is taken
  full_within : (bs : List ℕ) → length b < s.end + 128
      → within size (live_of s t line b) bs ≡ record { live = live_of s t line b; left = bs }
  unfolding within
  full_within [] full = refl
  full_within (c ∷ cs) full = cond_false _ _ _ (lt-leb (length (take s.end b) + 128) size (omega (arith, written, now.same)))

  pub feeding_full : length b < s.end + 128 → Taken f s t line piece used b₀ b
  feeding_full full =
      taken (record { live = live_of s t line b; left = drop used piece }) (full_within (drop used piece) full) refl refl

-- with 128 bytes of room, some of a piece is taken
pub taken_goes : (s : State) (t : Tables) (line piece b : List ℕ) {s' : State} {t' : Tables} {line' : List ℕ} {used : ℕ} {b' : List ℕ}
    → Taken (within (length b) (resumed s t line) piece) s' t' line' piece used b b' → 128 ≤ length b → 0 < length piece → 0 < used
taken_goes s t line piece b {used = used} got room some =
    let goes = within_goes (length b) (resumed s t line) piece room some in
    omega (arith, sym (length-drop used piece) ∙ ap length got.left, goes)
