-- A machine, its runs, and what an observer has of them. Nothing of registers or tables stands here.
use Rattle.std.specs.Prelude.{◌≡◌, List, [], ◌∷◌}

-- S: a state; Q: a step; A: an answer
pub record Machine (S Q A : Type 0) : Type 0 where
  pub step : Q → S → S
  pub see : Q → S → A

-- A step of a run: the observer's own; one that is taken in common, by every run that this one is compared with, and that he does not
-- hear the answer of; or one that is private to this run.
pub data Item (Q : Type 0) : Type 0 where
  public : Q → Item Q
  common : Q → Item Q
  private : Q → Item Q

-- the run without its private steps
abbrev pub without_private : {Q : Type 0} → List (Item Q) → List (Item Q)
without_private [] = []
without_private (public q ∷ r) = public q ∷ without_private r
without_private (common q ∷ r) = common q ∷ without_private r
without_private (private q ∷ r) = without_private r

-- the observer's steps of a run, and the others
abbrev pub publics : {Q : Type 0} → List (Item Q) → List Q
publics [] = []
publics (public q ∷ r) = q ∷ publics r
publics (common q ∷ r) = publics r
publics (private q ∷ r) = publics r

abbrev pub others : {Q : Type 0} → List (Item Q) → List Q
others [] = []
others (public q ∷ r) = others r
others (common q ∷ r) = q ∷ others r
others (private q ∷ r) = q ∷ others r

-- nothing is taken in common: the observer's steps and private ones
abbrev pub Plain : {Q : Type 0} → List (Item Q) → Type 0
Plain [] = Unit
Plain (public q ∷ r) = Plain r
Plain (common q ∷ r) = ⊥
Plain (private q ∷ r) = Plain r

-- what the observer has of a step of his: its answer, and the state that it leaves
pub record Sight (S A : Type 0) : Type 0 where
  pub answered : A
  pub left : S

-- the answers alone
abbrev pub heard : {S A : Type 0} → List (Sight S A) → List A
heard [] = []
heard (x ∷ xs) = x.answered ∷ heard xs

module _ {S Q A : Type 0} where
  -- what he has of a run. Each step is taken on the state that the step before left.
  abbrev pub sights : Machine S Q A → S → List (Item Q) → List (Sight S A)
  sights M a [] = []
  sights M a (public q ∷ r) = record { answered = M.see q a; left = M.step q a } ∷ sights M (M.step q a) r
  sights M a (common q ∷ r) = sights M (M.step q a) r
  sights M a (private q ∷ r) = sights M (M.step q a) r

  -- the state at the end of a run
  abbrev pub ended : Machine S Q A → S → List (Item Q) → S
  ended M a [] = a
  ended M a (public q ∷ r) = ended M (M.step q a) r
  ended M a (common q ∷ r) = ended M (M.step q a) r
  ended M a (private q ∷ r) = ended M (M.step q a) r

  -- each step is what it is called, at the state where it is taken
  abbrev pub Honest : Machine S Q A → (S → Q → Type 0) → (Q → Type 0) → (S → Q → Type 0) → S → List (Item Q) → Type 0
  Honest M Public Common Private a [] = Unit
  Honest M Public Common Private a (public q ∷ r) = Public a q × Honest M Public Common Private (M.step q a) r
  Honest M Public Common Private a (common q ∷ r) = Common q × Honest M Public Common Private (M.step q a) r
  Honest M Public Common Private a (private q ∷ r) = Private a q × Honest M Public Common Private (M.step q a) r

-- good states of which the observer has the same, index by index
pub record Alike {S I W : Type 0} (Good : S → Type 0) (has : S → I → W) (a b : S) : Type 0 where
  pub first : Good a
  pub second : Good b
  pub same : (i : I) → has a i ≡ has b i

-- the same answers, and alike states after each
abbrev pub Agree : {S A : Type 0} → (S → S → Type 0) → List (Sight S A) → List (Sight S A) → Type 0
Agree Like [] [] = Unit
Agree Like [] (y ∷ ys) = ⊥
Agree Like (x ∷ xs) [] = ⊥
Agree Like (x ∷ xs) (y ∷ ys) = (x.answered ≡ y.answered) × Like x.left y.left × Agree Like xs ys

-- The observer has the same of the run r from a and of the run r' from b.
pub record SameRuns {S Q A : Type 0} (M : Machine S Q A) (Like : S → S → Type 0) (a : S) (r : List (Item Q)) (b : S) (r' : List (Item Q))
    : Type 0 where
  pub answers : Agree Like (sights M a r) (sights M b r')
  pub ends : Like (ended M a r) (ended M b r')
