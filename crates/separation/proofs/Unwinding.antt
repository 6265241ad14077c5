-- THE RUN THEOREM, over any machine whose steps obey the laws of unwinding; and machines whose states keep interrupts that are each acted
-- on alone, for which the laws are asked of one interrupt.
--   two_runs      two runs with the same steps but for their private ones: the observer has the same of both
--   run_deleted   a run without its private steps is a run, from any alike state, and he has the same of both
--   plain_same    where nothing is taken in common, it is enough that his steps are the same
--   heard_same    the answers that he has of two such runs are the same list
--   runs_weaker   what he has may be said in a weaker relation
--   unwinds       a machine that keeps the cells of a local one obeys the laws if that does
use mathlib.Core.Path.{◌≡◌, refl, sym, ap, ap₂, ◌∙◌}
use mathlib.Core.List.{List, [], ◌∷◌}
use Prim.Native.Nat.{ℕ}
use native.Mathlib.Omega.{arith}
use Rattle.separation.specs.Runs.{Machine, Item, public, common, private, without_private, publics, Plain}
use Rattle.separation.specs.Runs.{Sight, heard, sights, ended, Honest}
use Rattle.separation.specs.Runs.{Alike, Agree, SameRuns}

-- THE LAWS
pub record Unwinds {S Q A : Type 0} (M : Machine S Q A) (Like : S → S → Type 0) (Public : S → Q → Type 0) (Common : Q → Type 0)
    (Private : S → Q → Type 0) : Type 0 where
  pub sym_alike : (a b : S) → Like a b → Like b a
  -- what the observer may do, what he sees and what he leaves depend on what he has
  pub public_alike : (q : Q) (a b : S) → Like a b → Public a q → Public b q
  pub see_alike : (q : Q) (a b : S) → Like a b → Public a q → M.see q a ≡ M.see q b
  pub step_alike : (q : Q) (a b : S) → Like a b → Public a q → Like (M.step q a) (M.step q b)
  -- so does what a common step leaves him
  pub common_alike : (q : Q) (a b : S) → Like a b → Common q → Like (M.step q a) (M.step q b)
  -- a private step leaves what he has
  pub private_alike : (q : Q) (a b : S) → Like a b → Private a q → Like (M.step q a) b

module _ {S Q A : Type 0} (M : Machine S Q A) (Like : S → S → Type 0) (Public : S → Q → Type 0) (Common : Q → Type 0)
    (Private : S → Q → Type 0) (law : Unwinds M Like Public Common Private) where
  abbrev Runs : S → List (Item Q) → Type 0
  Runs a r = Honest M Public Common Private a r

  abbrev Agrees : S → List (Item Q) → S → List (Item Q) → Type 0
  Agrees a r b r' = Agree Like (sights M a r) (sights M b r') × Like (ended M a r) (ended M b r')

  private_right : (q : Q) (a b : S) → Like a b → Private b q → Like a (M.step q b)
  private_right q a b h p = law.sym_alike _ _ (law.private_alike q b a (law.sym_alike a b h) p)

  -- THE INDUCTION, on both runs at once: private steps first, on either side, then a step that both take
  agrees : (r r' : List (Item Q)) (a b : S) → without_private r ≡ without_private r' → Like a b → Runs a r → Runs b r' → Agrees a r b r'
  agrees (private q ∷ r) r' a b same h k k' = agrees r r' (M.step q a) b same (law.private_alike q a b h k.0) k.1 k'
  agrees [] (private q ∷ r') a b same h k k' = agrees [] r' a (M.step q b) same (private_right q a b h k'.0) k k'.1
  agrees (public p ∷ r) (private q ∷ r') a b same h k k' =
      agrees (public p ∷ r) r' a (M.step q b) same (private_right q a b h k'.0) k k'.1
  agrees (common p ∷ r) (private q ∷ r') a b same h k k' =
      agrees (common p ∷ r) r' a (M.step q b) same (private_right q a b h k'.0) k k'.1
  agrees [] [] a b same h k k' = (tt, h)
  agrees [] (public q ∷ r') a b same h k k' = absurd (let z : ◌≡◌ {A = ℕ} 0 1 = cc in omega arith)
  agrees [] (common q ∷ r') a b same h k k' = absurd (let z : ◌≡◌ {A = ℕ} 0 1 = cc in omega arith)
  agrees (public p ∷ r) [] a b same h k k' = absurd (let z : ◌≡◌ {A = ℕ} 0 1 = cc in omega arith)
  agrees (common p ∷ r) [] a b same h k k' = absurd (let z : ◌≡◌ {A = ℕ} 0 1 = cc in omega arith)
  agrees (public p ∷ r) (common q ∷ r') a b same h k k' = absurd (let z : ◌≡◌ {A = ℕ} 0 1 = cc in omega arith)
  agrees (common p ∷ r) (public q ∷ r') a b same h k k' = absurd (let z : ◌≡◌ {A = ℕ} 0 1 = cc in omega arith)
  agrees (public p ∷ r) (public q ∷ r') a b same h k k' =
      let e : q ≡ p = cc in
      let next = law.step_alike p a b h k.0 in
      let rest = agrees r r' (M.step p a) (M.step p b) (cc) next k.1 (rw e at k'.1) in
      rw e ((law.see_alike p a b h k.0, next, rest.0), rest.1)
  agrees (common p ∷ r) (common q ∷ r') a b same h k k' =
      let e : q ≡ p = cc in
      rw e (agrees r r' (M.step p a) (M.step p b) (cc) (law.common_alike p a b h k.0) k.1 (rw e at k'.1))

  pub two_runs : (r r' : List (Item Q)) (a b : S) → without_private r ≡ without_private r' → Like a b → Runs a r → Runs b r'
      → SameRuns M Like a r b r'
  two_runs r r' a b same h k k' = let x = agrees r r' a b same h k k' in record { answers = x.0; ends = x.1 }

  deleted_honest : (r : List (Item Q)) (a b : S) → Like a b → Runs a r → Runs b (without_private r)
  deleted_honest [] a b h k = tt
  deleted_honest (public q ∷ r) a b h k =
      (law.public_alike q a b h k.0, deleted_honest r (M.step q a) (M.step q b) (law.step_alike q a b h k.0) k.1)
  deleted_honest (common q ∷ r) a b h k =
      (k.0, deleted_honest r (M.step q a) (M.step q b) (law.common_alike q a b h k.0) k.1)
  deleted_honest (private q ∷ r) a b h k = deleted_honest r (M.step q a) b (law.private_alike q a b h k.0) k.1

  deleted_once : (r : List (Item Q)) → without_private r ≡ without_private (without_private r)
  deleted_once [] = refl
  deleted_once (public q ∷ r) = ap (λ (rest : List (Item Q)). public q ∷ rest) (deleted_once r)
  deleted_once (common q ∷ r) = ap (λ (rest : List (Item Q)). common q ∷ rest) (deleted_once r)
  deleted_once (private q ∷ r) = deleted_once r

  pub run_deleted : (r : List (Item Q)) (a b : S) → Like a b → Runs a r
      → Runs b (without_private r) × SameRuns M Like a r b (without_private r)
  run_deleted r a b h k =
      let honest = deleted_honest r a b h k in
      (honest, two_runs r (without_private r) a b (deleted_once r) h k honest)

-- where nothing is taken in common, the same steps of the observer are enough
pub plain_same : {Q : Type 0} (r r' : List (Item Q)) → Plain r → Plain r' → publics r ≡ publics r' → without_private r ≡ without_private r'
plain_same (private q ∷ r) r' p p' e = plain_same r r' p p' e
plain_same [] (private q ∷ r') p p' e = plain_same [] r' p p' e
plain_same (public q ∷ r) (private q' ∷ r') p p' e = plain_same (public q ∷ r) r' p p' e
plain_same (common q ∷ r) (private q' ∷ r') p p' e = absurd p
plain_same [] [] p p' e = refl
plain_same [] (public q ∷ r') p p' e = absurd (let z : ◌≡◌ {A = ℕ} 0 1 = cc in omega arith)
plain_same [] (common q ∷ r') p p' e = absurd p'
plain_same (public q ∷ r) [] p p' e = absurd (let z : ◌≡◌ {A = ℕ} 0 1 = cc in omega arith)
plain_same (common q ∷ r) [] p p' e = absurd p
plain_same (public q ∷ r) (common q' ∷ r') p p' e = absurd p'
plain_same (common q ∷ r) (public q' ∷ r') p p' e = absurd p
plain_same (common q ∷ r) (common q' ∷ r') p p' e = absurd p
plain_same {Q} (public q ∷ r) (public q' ∷ r') p p' e =
    let h : q ≡ q' = cc in
    ap₂ (λ (x : Q) (xs : List (Item Q)). public x ∷ xs) h (plain_same r r' p p' (cc))

-- the answers of runs of which he has the same are the same list
pub heard_same : {S A : Type 0} (Like : S → S → Type 0) (xs ys : List (Sight S A)) → Agree Like xs ys → heard xs ≡ heard ys
heard_same Like [] [] h = refl
heard_same Like [] (y ∷ ys) h = absurd h
heard_same Like (x ∷ xs) [] h = absurd h
heard_same {S} {A} Like (x ∷ xs) (y ∷ ys) h = ap₂ (λ (a : A) (rest : List A). a ∷ rest) h.0 (heard_same Like xs ys h.2)

-- what the observer has of two runs may be said in a weaker relation
agree_weaker : {S A : Type 0} (Like Weak : S → S → Type 0) → ((a b : S) → Like a b → Weak a b) → (xs ys : List (Sight S A))
    → Agree Like xs ys → Agree Weak xs ys
agree_weaker Like Weak f [] [] h = tt
agree_weaker Like Weak f [] (y ∷ ys) h = absurd h
agree_weaker Like Weak f (x ∷ xs) [] h = absurd h
agree_weaker Like Weak f (x ∷ xs) (y ∷ ys) h = (h.0, f x.left y.left h.1, agree_weaker Like Weak f xs ys h.2)

pub runs_weaker : {S Q A : Type 0} (M : Machine S Q A) (Like Weak : S → S → Type 0) → ((a b : S) → Like a b → Weak a b)
    → (a : S) (r : List (Item Q)) (b : S) (r' : List (Item Q)) → SameRuns M Like a r b r' → SameRuns M Weak a r b r'
runs_weaker M Like Weak f a r b r' h =
    record { answers = agree_weaker Like Weak f (sights M a r) (sights M b r') h.answers; ends = f _ _ h.ends }

-- STATES THAT ARE A CELL FOR EACH INDEX, each acted on alone, and what the observer has of a cell
pub record Local (I C W Q A : Type 0) : Type 0 where
  pub act : Q → I → C → C
  pub see : Q → (I → C) → A
  pub view : I → C → W

module _ {I C W Q A : Type 0} where
  abbrev pub AlikeBy : Local I C W Q A → (I → C) → (I → C) → Type 0
  AlikeBy L a b = (i : I) → L.view i (a i) ≡ L.view i (b i)

  pub record LocalLaws (L : Local I C W Q A) (Public : (I → C) → Q → Type 0) (Common : Q → Type 0) (Private : (I → C) → Q → Type 0)
      : Type 0 where
    pub public_view : (q : Q) (a b : I → C) → AlikeBy L a b → Public a q → Public b q
    pub see_view : (q : Q) (a b : I → C) → AlikeBy L a b → Public a q → L.see q a ≡ L.see q b
    pub act_view : (q : Q) (a : I → C) → Public a q → (i : I) (c : C) → L.view i (a i) ≡ L.view i c
        → L.view i (L.act q i (a i)) ≡ L.view i (L.act q i c)
    pub common_view : (q : Q) → Common q → (i : I) (c d : C) → L.view i c ≡ L.view i d
        → L.view i (L.act q i c) ≡ L.view i (L.act q i d)
    pub private_view : (q : Q) (a : I → C) → Private a q → (i : I) → L.view i (L.act q i (a i)) ≡ L.view i (a i)

  -- a machine whose good states keep such cells
  pub record Keeps {S : Type 0} (L : Local I C W Q A) (M : Machine S Q A) (Good : S → Type 0) (cells : S → I → C) : Type 0 where
    pub stays_good : (q : Q) (t : S) → Good t → Good (M.step q t)
    pub step_cells : (q : Q) (t : S) → Good t → (i : I) → cells (M.step q t) i ≡ L.act q i (cells t i)
    pub see_cells : (q : Q) (t : S) → Good t → M.see q t ≡ L.see q (cells t)

module _ {I C W Q A S : Type 0} (L : Local I C W Q A) (Public : (I → C) → Q → Type 0) (Common : Q → Type 0)
    (Private : (I → C) → Q → Type 0) (law : LocalLaws L Public Common Private) (M : Machine S Q A) (Good : S → Type 0)
    (cells : S → I → C) (keeps : Keeps L M Good cells) where
  abbrev has : S → I → W
  has t i = L.view i (cells t i)

  after : (q : Q) (t : S) → Good t → (i : I) → has (M.step q t) i ≡ L.view i (L.act q i (cells t i))
  after q t g i = ap (L.view i) (keeps.step_cells q t g i)

  pub unwinds : Unwinds M (Alike Good (λ t i. L.view i (cells t i))) (λ t. Public (cells t)) Common (λ t. Private (cells t))
  unwinds =
      record {
        sym_alike = λ a b h. record { first = h.second; second = h.first; same = λ i. sym (h.same i) };
        public_alike = λ q a b h p. law.public_view q (cells a) (cells b) h.same p;
        see_alike = λ q a b h p.
            keeps.see_cells q a h.first
            ∙ (law.see_view q (cells a) (cells b) h.same p ∙ sym (keeps.see_cells q b h.second));
        step_alike = λ q a b h p.
            record {
              first = keeps.stays_good q a h.first;
              second = keeps.stays_good q b h.second;
              same = λ i.
                  after q a h.first i ∙ (law.act_view q (cells a) p i (cells b i) (h.same i) ∙ sym (after q b h.second i));
            };
        common_alike = λ q a b h p.
            record {
              first = keeps.stays_good q a h.first;
              second = keeps.stays_good q b h.second;
              same = λ i.
                  after q a h.first i ∙ (law.common_view q p i (cells a i) (cells b i) (h.same i) ∙ sym (after q b h.second i));
            };
        private_alike = λ q a b h p.
            record {
              first = keeps.stays_good q a h.first;
              second = h.second;
              same = λ i. after q a h.first i ∙ (law.private_view q (cells a) p i ∙ h.same i);
            };
      }
