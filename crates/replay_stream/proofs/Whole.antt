-- Whatever the calls of `feed` and `finish` take at a time, what they hand on is the output of document 01's replay.
--   handed_on_lem    from any state: the calls hand on what is still to be written
--   whole    from the start of a replay: they hand on `replayed input`
--   room_taken    with room for the output and 128 bytes more, a piece is taken whole
--   room_said    so with such a buffer one call of each is a whole replay
use mathlib.Core.Path.{◌≡◌, refl, sym, ap, subst, ◌∙◌}
use mathlib.Core.List.{List, [], ◌∷◌, ◌++◌, append-nil}
use Prim.Native.Nat.{ℕ, ◌+◌, ◌≤◌}
use native.Mathlib.Omega.{arith}
use lib.ListN.{length, take, drop, replicate, length-append, length-drop}
use borrow.Author.Tests.{le-leb}
use Rattle.meaning.specs.Layout.{Tables}
use Rattle.meaning.proofs.Choices.{cond_true}
use Rattle.replay_meaning.specs.Replay.{all_present, start_tables, start, ending, finished, replayed}
use Rattle.replay_meaning.specs.Stream.{Live, Fed, byte_read, fed, closed, start_live, within, handed_on}
use Rattle.replay_meaning.proofs.Prefixes.{closed_handed_on}
use Rattle.replay_meaning.proofs.Pieces.{fed_append, within_fed}
use Rattle.replay_meaning.proofs.Lines.{streamed}
use Rattle.replay_state.specs.declared.State.{State}
use Rattle.std.specs.Prelude.{Option, Some}
use Rattle.replay_state.specs.Ended.{EndWritten}
use Rattle.replay_state.specs.Held.{start_state}
use Rattle.replay_state.proofs.Ending.{said_text}
use Rattle.replay_stream.specs.ReachedLive.{live_of, resumed, Taken}
use Rattle.replay_stream.specs.Whole.{Calls, last, next}

-- one call of `feed`: what it wrote, and then all that the rest of the piece and the later input give from the state after it
feed_hands_on : (s s' : State) (t t' : Tables) (line line' piece : List ℕ) (used : ℕ) (later b b' : List ℕ)
    → Taken (within (length b) (resumed s t line) piece) s' t' line' piece used b b'
    → take s'.end b' ++ closed (fed (resumed s' t' line') (drop used piece ++ later)) ≡ closed (fed (resumed s t line) (piece ++ later))
unfolding handed_on
feed_hands_on s s' t t' line line' piece used later b b' got =
    let f : Fed = within (length b) (resumed s t line) piece in
    sym (closed_handed_on (live_of s' t' line' b') (drop used piece ++ later))
    ∙ ap closed
    (ap (λ (l : Live). fed l (drop used piece ++ later)) got.live
    ∙ (ap (λ (x : List ℕ). fed f.live (x ++ later)) got.left
    ∙ (fed_append f.live f.left later
    ∙ (ap (λ (l : Live). fed l later) (within_fed (length b) (resumed s t line) piece)
    ∙ sym (fed_append (resumed s t line) piece later)))))

handed_on_lem : {s : State} {t : Tables} {line input output : List ℕ} → Calls s t line input output
    → output ≡ closed (fed (resumed s t line) input)
unfolding fed closed finished
handed_on_lem (last s t line r n b b' w is) = said_text is w
handed_on_lem (next s s' t t' line line' piece used later b b' output got calls) =
    ap (λ (x : List ℕ). take s'.end b' ++ x) (handed_on_lem calls) ∙ feed_hands_on s s' t t' line line' piece used later b b' got

-- a replay's start: no byte read, all records 0, and a buffer for the unfinished line of 18 bytes or more
module _ {s : State} {d r : List ℕ} (line : List ℕ) (hs : s ≡ start_state) (hd : d ≡ replicate 2012 0) (hr : r ≡ replicate 96 0)
    (long : 18 ≤ length line) where
  start_live_lem : resumed s (all_present d r) line ≡ start_live (length line)
  unfolding start_state start_tables start start_live
  start_live_lem =
      λ i.
      record {
        run = record { at = (hs i).at; tables = all_present (hd i) (hr i); said = [] };
        line = take (hs i).len line;
        most = length line;
      }

  started : (input : List ℕ) → closed (fed (resumed s (all_present d r) line) input) ≡ replayed input
  started input = ap (λ (l : Live). closed (fed l input)) start_live_lem ∙ streamed (length line) long input

  -- THE THEOREM: what the calls hand on is the whole output for the whole input
  pub whole : (input output : List ℕ) → Calls s (all_present d r) line input output → output ≡ replayed input
  whole input output calls = handed_on_lem calls ∙ started input

-- what was written up to here is no longer than what is written in the end
said_short : (l : Live) (bs : List ℕ) → length l.run.said ≤ length (closed (fed l bs))
said_short l bs =
    let both : length (closed (fed l bs)) ≡ length l.run.said + length (closed (fed (handed_on l) bs)) =
    ap length (closed_handed_on l bs) ∙ length-append l.run.said (closed (fed (handed_on l) bs)) in
    omega (arith, both)

-- with room for all that is written in the end, a piece is taken whole
room_taken : (size : ℕ) (l : Live) (bs : List ℕ) → length (closed (fed l bs)) + 128 ≤ size
    → within size l bs ≡ record { live = fed l bs; left = [] }
unfolding within fed
room_taken size l [] room = refl
room_taken size l (b ∷ bs) room =
    let short = said_short l (b ∷ bs) in
    cond_true _ _ _ (le-leb (length l.run.said + 128) size (omega (arith, short, room)))
    ∙ room_taken size (byte_read l b) bs room

-- THE LAW: in a buffer with room for the output and 128 bytes more, one call of `feed` takes a whole input. What it wrote and then
-- what `finish` wrote is the output.
pub room_said : {s s' : State} {d r : List ℕ} {t' : Tables} (line : List ℕ) {line' : List ℕ} (input : List ℕ) {used : ℕ} (b : List ℕ)
    {b' : List ℕ} {e : Option ℕ} {n : ℕ} {c c' : List ℕ} → s ≡ start_state → d ≡ replicate 2012 0 → r ≡ replicate 96 0
    → 18 ≤ length line → length (replayed input) + 128 ≤ length b
    → Taken (within (length b) (resumed s (all_present d r) line) input) s' t' line' input used b b'
    → EndWritten (ending s'.at (take s'.len line')) c e c' → e ≡ Some n
    → (used ≡ length input) × (take s'.end b' ++ take n c' ≡ replayed input)
room_said {s} {s'} {d} {r} {t'} line {line'} input {used} b {b'} {e} {n} {c} {c'} hs hd hr long room got w is = (all, output)
  where
    none : drop used input ≡ []
    none =
        got.left
        ∙ ap (λ (f : Fed). f.left)
        (room_taken (length b) (resumed s (all_present d r) line) input
        (omega (arith, ap length (started line hs hd hr long input), room)))

    all : used ≡ length input
    all = omega (arith, got.inside, sym (length-drop used input) ∙ ap length none)

    calls : Calls s (all_present d r) line (input ++ []) (take s'.end b' ++ take n c')
    calls =
        next s s' (all_present d r) t' line line' input used [] b b' (take n c') got
        (subst (λ (x : List ℕ). Calls s' t' line' (x ++ []) (take n c')) (sym none) (last s' t' line' e n c c' w is))

    output : take s'.end b' ++ take n c' ≡ replayed input
    output = whole line hs hd hr long (input ++ []) _ calls ∙ ap replayed (append-nil input)
