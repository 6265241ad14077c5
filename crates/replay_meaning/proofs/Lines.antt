-- The replay byte by byte is the replay by lines.
use mathlib.Core.Path.{◌≡◌, refl, sym, ap, ◌∙◌}
use mathlib.Core.Bool.{Bool, true, false, cond, ◌&&◌}
use mathlib.Core.List.{List, [], ◌∷◌, ◌++◌, append_assoc, append-nil}
use Prim.Native.Nat.{ℕ, zero, suc, ◌≤◌}
use native.Mathlib.Omega.{arith}
use lib.Dec.{eqb, leb}
use lib.ListN.{length, take, length-take, length-append}
use lib.Seq.{take_all, take-nil, take-append-le}
use borrow.Author.Tests.{lt-ltb, le-ltb, leb-true, leb-false, eq-eqb, ne_eqb}
use Rattle.std.specs.Prelude.{Option, None}
use Rattle.text.specs.Number.{numbered}
use Rattle.text.specs.Text.{bytes}
use Rattle.replay_keys.specs.declared.Key.{Key}
use Rattle.replay_keys.specs.Keys.{field_of}
use Rattle.replay_keys.proofs.Fields.{long_field}
use Rattle.replay_meaning.specs.declared.Progress.{Progress}
use Rattle.replay_meaning.specs.Run.{Run, line_judged, line_read, bad_text, most_steps}
use Rattle.replay_meaning.specs.Replay.{Cut, longer, cut, start, lines_read, is_first, ending, finished, replayed}
use Rattle.replay_meaning.specs.Stream.{Live, pushed, byte_read, fed, start_live, closed, in_pieces, joined}
use Rattle.replay_meaning.proofs.Pieces.{pieces}

-- Where at least 18 bytes of a line are kept, they are enough to judge it: a longer line is bad anyway.
module _ (most : ℕ) (enough : 18 ≤ most) where
  field_short : (k : Key) (t : List ℕ) → field_of k (take most t) ≡ field_of k t
  field_short k t = by (leb (length t) most) refl
    where
      by : (x : Bool) → leb (length t) most ≡ x → field_of k (take most t) ≡ field_of k t
      by true e = ap (field_of k) (take_all most t (leb-true (length t) most e))
      by false e =
          let h = leb-false (length t) most e in
          long_field k (take most t) (simp length-take (omega arith)) ∙ sym (long_field k t (omega arith))

  line_short : (r : Run) (t : List ℕ) → line_read r (take most t) ≡ line_read r t
  unfolding line_read
  line_short r t =
      ap (λ (n : Option ℕ). cond r.at.over r (line_judged r (cond (leb most_steps r.at.steps) None n))) (field_short r.at.key t)

  pushed_short : (t : List ℕ) (b : ℕ) → pushed most (take most t) b ≡ take most (t ++ (b ∷ []))
  unfolding pushed
  pushed_short t b = by (leb most (length t)) refl
    where
      by : (x : Bool) → leb most (length t) ≡ x → pushed most (take most t) b ≡ take most (t ++ (b ∷ []))
      by true e =
          let h = leb-true most (length t) e in
          rw (le-ltb (length (take most t)) most (simp length-take (omega arith))) (sym (take-append-le most t (b ∷ []) h))
      by false e =
          let h = leb-false most (length t) e in
          let all = take_all most t (omega arith) in
          rw (all, lt-ltb (length t) most h) (sym (take_all most (t ++ (b ∷ [])) (simp length-append (omega arith))))

  ending_short : (p : Progress) (t : List ℕ) → ending p (take most t) ≡ ending p t
  unfolding ending
  ending_short p t =
      ap (λ (x : Bool). cond p.over [] (cond (is_first p.key && x) (numbered (bytes "end=") p.steps) (bad_text p)))
      (none (length t) refl)
    where
      none : (n : ℕ) → length t ≡ n → eqb (length (take most t)) 0 ≡ eqb (length t) 0
      none zero e = rw (eq-eqb (length t) 0 e, eq-eqb (length (take most t)) 0 (simp length-take (omega arith)))
      none (suc n) e =
          ne_eqb (length (take most t)) 0 (λ h. omega (arith, simp length-take at h)) ∙ sym (ne_eqb (length t) 0 (λ h. omega arith))

-- a cut text, given by its lines and its rest, with t put before it: t goes to its first line, or to the rest where it has no line end
abbrev leading : List ℕ → List (List ℕ) → List ℕ → Cut
leading t [] rest = record { lines = []; rest = t ++ rest }
leading t (l ∷ ls) rest = record { lines = (t ++ l) ∷ ls; rest = rest }

abbrev before : List ℕ → Cut → Cut
before t k = leading t k.lines k.rest

before_none : (k : Cut) → before [] k ≡ k
before_none k = by k.lines refl
  where
    by : (ls : List (List ℕ)) → k.lines ≡ ls → leading [] ls k.rest ≡ record { lines = ls; rest = k.rest }
    by [] e = refl
    by (l ∷ ls) e = refl

before_byte : (t : List ℕ) (b : ℕ) (ls : List (List ℕ)) (rest : List ℕ) → leading (t ++ (b ∷ [])) ls rest ≡ before t (longer b ls rest)
before_byte t b [] rest = ap (λ (u : List ℕ). record { lines = []; rest = u }) (append_assoc t (b ∷ []) rest)
before_byte t b (l ∷ ls) rest = ap (λ (u : List ℕ). record { lines = u ∷ ls; rest = rest }) (append_assoc t (b ∷ []) l)

module _ (most : ℕ) (enough : 18 ≤ most) where
  abbrev live : Run → List ℕ → Live
  live r t = record { run = r; line = t; most = most }

  abbrev cut_read : Run → Cut → Live
  cut_read r k = live (lines_read r k.lines) (take most k.rest)

  fed_lines : (r : Run) (t bs : List ℕ) → fed (live r (take most t)) bs ≡ cut_read r (before t (cut bs))
  unfolding fed cut lines_read byte_read
  fed_lines r t [] = ap (λ (u : List ℕ). live r (take most u)) (sym (append-nil t))
  fed_lines r t (b ∷ bs) =
      step (eqb b 10)
      (nothing ∙ (fed_lines (line_read r (take most t)) [] bs ∙ ap (cut_read (line_read r (take most t))) (before_none (cut bs))))
      (fed_lines r (t ++ (b ∷ [])) bs)
    where
      nothing : fed (live (line_read r (take most t)) []) bs ≡ fed (live (line_read r (take most t)) (take most [])) bs
      nothing = ap (λ (u : List ℕ). fed (live (line_read r (take most t)) u) bs) (sym (take-nil most))

      step : (x : Bool)
          → fed (live (line_read r (take most t)) []) bs ≡ cut_read (line_read r (take most t)) (cut bs)
          → fed (live r (take most (t ++ (b ∷ [])))) bs ≡ cut_read r (before (t ++ (b ∷ [])) (cut bs))
          → fed (cond x (live (line_read r (take most t)) []) (live r (pushed most (take most t) b))) bs
          ≡ cut_read r
          (before t (cond x (record { lines = [] ∷ (cut bs).lines; rest = (cut bs).rest }) (longer b (cut bs).lines (cut bs).rest)))
      step true end more =
          end
          ∙ ap (λ (q : Run). cut_read q (cut bs)) (line_short most enough r t ∙ ap (line_read r) (sym (append-nil t)))
      step false end more =
          ap (λ (u : List ℕ). fed (live r u) bs) (pushed_short most enough t b)
          ∙ (more ∙ ap (cut_read r) (before_byte t b (cut bs).lines (cut bs).rest))

  -- THE THEOREM: byte by byte, the output is the one that the lines give
  pub streamed : (input : List ℕ) → closed (fed (start_live most) input) ≡ replayed input
  unfolding closed start_live replayed finished
  streamed input =
      ap (λ (u : List ℕ). closed (fed (live start u) input)) (sym (take-nil most))
      ∙ (ap closed (fed_lines start [] input ∙ ap (cut_read start) (before_none (cut input)))
      ∙ ap (λ (t : List ℕ). (lines_read start (cut input).lines).said ++ t)
      (ending_short most enough (lines_read start (cut input).lines).at (cut input).rest))

  -- and the same holds where the input comes in pieces of any size
  pub in_pieces_lem : (ps : List (List ℕ)) → in_pieces (start_live most) ps ≡ replayed (joined ps)
  in_pieces_lem ps = pieces (start_live most) ps ∙ streamed (joined ps)
