-- THE HYPOTHESES CAN BE MET, and the theorem is needed: two tables and two runs whose Secure records differ wherever the Non-secure side
-- takes a step, each with private steps of its own, and answers to the Non-secure side that are not zero. SPIs 300 and 301 are Non-secure,
-- 301 pending; SPIs 44, the wheel-speed tick, and 45 to 48 are Secure; 400 is missing.
--   alike                          the tables are alike, though a Secure and a missing interrupt's records differ
--   witness                        the theorem, at these tables and runs; plain_witness at runs without steps in common, in bytes
--   first_heard, second_heard      what the Non-secure side is answered in each: 0x2000, done, 0x3000
--   first_apart, second_apart      SPI 45's record where it takes its steps: 0 in one run, 4 in the other
--   none_heard                     the same answers from the table where no Secure interrupt exists
--   not_refused                    its word access at 0x224 is done
use Rattle.std.specs.Prelude.{Ok}
use mathlib.Core.Path.{◌≡◌, refl, sym, ap, ◌∙◌, subst}
use mathlib.Core.Bool.{Bool, true, false, ◌&&◌}
use mathlib.Core.List.{List, [], ◌∷◌, ◌++◌}
use Prim.Native.Nat.{ℕ, ◌%◌, ◌<◌}
use native.Mathlib.Omega.{arith}
use native.Mathlib.Decide.{ℕ_discrete}
use lib.ListN.{get_or, set, replicate}
use lib.Seq.{get_or-set_other}
use Rattle.lists.specs.Word.{digit_at, bit_at, row}
use Rattle.lists.proofs.Bools.{clash}
use Rattle.types.specs.declared.Frame.TheVariants.{Dist, Redist}
use Rattle.types.specs.declared.Bit.TheVariants.{Group}
use Rattle.types.specs.declared.Way.TheVariants.{Read, Write}
use Rattle.types.specs.declared.Event.TheVariants.{Wire}
use Rattle.types.specs.declared.Family.TheVariants.{Ispendr}
use Rattle.types.specs.declared.Place.TheVariants as place
use Rattle.types.specs.declared.Side.TheVariants.{NonSecure}
use Rattle.types.specs.declared.Window.{Window}
use Rattle.meaning.specs.Answers.{Answer}
use Rattle.meaning.specs.Interrupt.{Interrupt, intid, same, named, frame_of, sgi}
use Rattle.meaning.specs.Cell.{get, put, has, decode, non_secure, owned, pending, edge_of}
use Rattle.meaning.specs.Layout.{Tables, records_of, well_formed, lengths_fit, shape_fits, intid_at, interrupt_at, in_range}
use Rattle.meaning.specs.Layout.{Home, slot, nowhere, home_of, present_at, record_at, implemented, cell_of}
use Rattle.meaning.specs.Registers.{row_of, in_column, listed, place_of, written_value, target_of, names}
use Rattle.meaning.specs.Rule.{Step, happens, deed_of, sees, may_touch, reaches, switched, update, shows, visible, aims, admits, effect}
use Rattle.meaning.specs.Rule.{performed, act}
use Rattle.meaning.specs.Step.{Cells, word_read, answer, stepped}
use Rattle.meaning.specs.Cases.{bench}
use Rattle.meaning.proofs.Homes.{home_back}
use Rattle.meaning.proofs.Aims.{unaimed_left}
use Rattle.meaning.proofs.After.{answer_well, well_kept, cells_stepped}
use Rattle.promises.proofs.Records.{unaimed_kept}
use Rattle.separation.specs.Runs.{Item, public, common, private, without_private, heard, sights}
use Rattle.separation.specs.Steps.{NonSecureStep, PrivateStep, CommonStep}
use Rattle.separation.specs.Private.{secure_write}
use Rattle.separation.specs.Lent.{controller, Run, AlikeTables, Same, SameInBytes, without_secure}
use Rattle.separation.specs.ReadBack.{ListedAt, non_secure_word, read_at, written_at, old_or_owned}
use Rattle.separation.proofs.Steps.{covered}
use Rattle.separation.proofs.Tables.{same_heard, same_for_both, demand_3, private_deleted}
use Rattle.separation.proofs.Cleared.{as_if_none}
use Rattle.separation.proofs.Private.{private_list}
use Rattle.separation.proofs.Answered.{word_answered}
use Rattle.separation.proofs.ReadBack.{word_read_lem, set_pending}

-- THE TABLES: all presence bits 1; SPIs 300 and 301 Non-secure and edge, 301 pending; every other record 0 and so Secure, its wire low
unfoldable pub before : Tables
before =
    record {
      dist = replicate 268 0 ++ (0x60 ∷ (0x62 ∷ replicate 1742 0));
      redist = replicate 96 0;
      dist_presence = replicate 63 4294967295;
      redist_presence = replicate 3 4294967295;
    }

-- the same, but the wire of SPI 45 is high, and the record of SPI 400, which the bench shape does not have, is all ones
unfoldable pub other : Tables
other =
    record {
      dist = set (set before.dist 13 4) 368 255;
      redist = before.redist;
      dist_presence = before.dist_presence;
      redist_presence = before.redist_presence;
    }

-- THE RUNS: the Non-secure side looks at word 9, makes SPI 300 pending there, and looks again. Between its steps Secure wires rise, other
-- ones in each run. In both the Secure side first enables SPI 300: a step in common.
abbrev pub rises : ℕ → Step
rises m = happens (Wire true) m

abbrev pub mark : Step
mark = non_secure_word Dist Write 0x224 0x1000

abbrev pub look : Step
look = non_secure_word Dist Read 0x224 0

abbrev pub allow : Step
allow = secure_write Dist 4 0x124 0x1000

abbrev pub first_run : List (Item Step)
first_run = private (rises 44) ∷ (common allow ∷ (public look ∷ (private (rises 46) ∷ (public mark ∷ (public look ∷ [])))))

abbrev pub second_run : List (Item Step)
second_run = common allow ∷ (public look ∷ (private (rises 47) ∷ (public mark ∷ (private (rises 48) ∷ (public look ∷ [])))))

-- THE TABLES ARE ALIKE
before_well : well_formed bench before ≡ true
unfolding well_formed lengths_fit shape_fits before
before_well = refl

other_well : well_formed bench other ≡ true
unfolding well_formed lengths_fit shape_fits before other
other_well = refl

-- at a home: the same grouping, and the same record where that is Non-secure
abbrev Fits : Home → Type 0
Fits h =
    (has Group (record_at before h) ≡ has Group (record_at other h))
    × (has Group (record_at before h) ≡ true → record_at before h ≡ record_at other h)

fits : (i : Interrupt) → implemented bench before i ≡ true → Fits (home_of i)
unfolding before other implemented in_range intid_at
fits i m = by (home_of i) refl
  where
    at_slot : (k w : ℕ) → home_of i ≡ slot Dist k w → Dec (k ≡ 368) → Dec (k ≡ 13) → Fits (slot Dist k w)
    at_slot k w e (yes z) y =
        let here = ap (interrupt_at Dist) (sym z) ∙ home_back i Dist k w e in
        absurd (clash m (subst (λ (j : Interrupt). implemented bench before j ≡ false) here refl))
    at_slot k w e (no z) (yes y) = subst (λ (j : ℕ). Fits (slot Dist j w)) (sym y) (refl, λ n. absurd (clash n refl))
    at_slot k w e (no z) (no y) =
        let wired = get_or other.dist 13 0 in
        let kept = sym (get_or-set_other (set before.dist 13 wired) 368 k 255 0 z ∙ get_or-set_other before.dist 13 k wired 0 y) in
        (ap (has Group) kept, λ n. kept)

    by : (h : Home) → home_of i ≡ h → Fits h
    by (slot Dist k w) e = at_slot k w e (ℕ_discrete k 368) (ℕ_discrete k 13)
    by (slot Redist k w) e = (refl, λ n. refl)
    by nowhere e = (refl, λ n. refl)

pub alike : AlikeTables bench before other
unfolding implemented non_secure cell_of decode other
alike =
    record {
      presence = λ i. ap (λ (b : Bool). in_range bench i && b) (by (intid i % 32) (home_of i));
      grouping = λ i m. (fits i m).0;
      records = λ i m n. (fits i m).1 n;
    }
  where
    by : (x : ℕ) (h : Home) → present_at before x h ≡ present_at other x h
    by x (slot Dist k w) = refl
    by x (slot Redist k w) = refl
    by x nowhere = refl

-- THE STATES OF THE RUNS
abbrev after : List Step → Tables → Tables
after [] t = t
after (q ∷ qs) t = after qs (stepped bench q t).tables

after_well : (qs : List Step) (t : Tables) → well_formed bench t ≡ true → well_formed bench (after qs t) ≡ true
after_well [] t h = h
after_well (q ∷ qs) t h = after_well qs _ (well_kept bench q t h)

-- none of the steps aims at the interrupt ..
abbrev Elsewhere : List Step → Interrupt → Type 0
Elsewhere [] i = Unit
Elsewhere (q ∷ qs) i = (aims bench (deed_of q) i ≡ false) × Elsewhere qs i

-- .. which then is what it was, and so is its record
still : (qs : List Step) (t : Tables) → well_formed bench t ≡ true → (i : Interrupt) → Elsewhere qs i
    → cell_of bench (after qs t) i ≡ cell_of bench t i
unfolding act
still [] t well i h = refl
still (q ∷ qs) t well i h =
    still qs _ (well_kept bench q t well) i h.1
    ∙ (cells_stepped bench q t well i ∙ unaimed_left bench (deed_of q) i (cell_of bench t i) h.0)

kept_45 : (qs : List Step) (t : Tables) → Elsewhere qs (interrupt_at Dist 13)
    → get_or (records_of Dist (after qs t)) 13 0 ≡ get_or (records_of Dist t) 13 0
kept_45 [] t h = refl
kept_45 (q ∷ qs) t h = kept_45 qs _ h.1 ∙ unaimed_kept bench q t Dist 13 (let l : 13 < 2012 = omega arith in l) h.0

-- THE RUNS ARE RUNS: a Secure wire that rises is private, after steps that do not aim at its interrupt
rise_private : (qs : List Step) (t : Tables) → well_formed bench t ≡ true → (m : ℕ) → Elsewhere qs (named m)
    → owned (cell_of bench t (named m)) ≡ false → PrivateStep bench (cell_of bench (after qs t)) (rises m)
rise_private qs t well m h o =
    (private_list bench).wire (cell_of bench (after qs t)) m true (ap owned (still qs t well (named m) h) ∙ o)

looks : (t : Tables) → NonSecureStep (cell_of bench t) look
looks t = covered (cell_of bench t) look refl

marks : (t : Tables) → NonSecureStep (cell_of bench t) mark
marks t = covered (cell_of bench t) mark refl

allows : CommonStep allow
unfolding deed_of place_of written_value listed in_column row_of target_of
allows =
    record {
      no_regrouping = λ w v e f. absurd (let z : ◌≡◌ {A = ℕ} 0 1 = cc in omega arith);
      no_reset = λ e. absurd (let z : ◌≡◌ {A = ℕ} 0 1 = cc in omega arith);
    }

abbrev q_1 : List Step
q_1 = rises 44 ∷ (allow ∷ (look ∷ []))

first_honest : Run bench before first_run
unfolding aims deed_of place_of listed in_column row_of target_of names same named frame_of owned non_secure cell_of implemented home_of
    in_range decode before bit_at
first_honest = (
  rise_private [] before before_well 44 tt refl,
  (allows, (looks _, (rise_private q_1 before before_well 46 (refl, (refl, (refl, tt))) refl, (marks _, (looks _, tt))))),
)

abbrev q_2 : List Step
q_2 = allow ∷ (look ∷ [])

abbrev q_3 : List Step
q_3 = allow ∷ (look ∷ (rises 47 ∷ (mark ∷ [])))

second_honest : Run bench other second_run
unfolding aims deed_of place_of listed in_column row_of target_of names same named frame_of owned non_secure cell_of implemented home_of
    in_range decode before other bit_at
second_honest = (
  allows,
  (
    looks _,
    (
      rise_private q_2 other other_well 47 (refl, (refl, tt)) refl,
      (marks _, (rise_private q_3 other other_well 48 (refl, (refl, (refl, (refl, tt)))) refl, (looks _, tt))),
    ),
  ),
)

-- THE THEOREM at these
pub witness : Same bench before first_run other second_run
witness = same_for_both bench before other before_well other_well alike first_run second_run refl first_honest second_honest

-- DOCUMENT 01'S WORDS at two runs without steps in common
abbrev first_plain : List (Item Step)
first_plain = private (rises 44) ∷ (public look ∷ (private (rises 46) ∷ []))

abbrev second_plain : List (Item Step)
second_plain = public look ∷ (private (rises 47) ∷ [])

pub plain_witness : SameInBytes bench before first_plain other second_plain
unfolding aims deed_of place_of listed in_column row_of target_of names same named frame_of owned non_secure cell_of implemented home_of
    in_range decode before other bit_at
plain_witness =
    demand_3 bench before other before_well other_well alike first_plain second_plain tt tt refl (
      rise_private [] before before_well 44 tt refl,
      (looks _, (rise_private (rises 44 ∷ (look ∷ [])) before before_well 46 (refl, (refl, tt)) refl, tt)),
    )
    (looks _, (rise_private (look ∷ []) other other_well 47 (refl, tt) refl, tt))

-- WHAT IS HEARD: without private steps by the rule and the read-back, in the runs by the theorems
at_224 : ListedAt Dist 0x224 (place.Word Dist Ispendr 9)
unfolding listed in_column row_of
at_224 = record { small = omega arith; aligned = refl; known = refl }

abbrev word_9 : Window
word_9 = record { frame = Dist; family = Ispendr; first = 288; count = 32 }

seen : (t : Tables) → well_formed bench t ≡ true → read_at bench Dist 0x224 0 t ≡ Ok (word_read bench NonSecure word_9 (cell_of bench t))
unfolding target_of row_of
seen t h = word_read_lem bench t h Dist 0x224 (place.Word Dist Ispendr 9) at_224 word_9 refl t h 0

-- the interrupts once SPI 300 is enabled, and once the Non-secure side has looked
abbrev allowed : Cells
allowed i = act bench allow i (cell_of bench before i)

abbrev looked : Cells
looked i = act bench look i (allowed i)

t_1 : Tables
t_1 = after (allow ∷ []) before

t_2 : Tables
t_2 = after (allow ∷ (look ∷ [])) before

well_1 : well_formed bench t_1 ≡ true
unfolding t_1
well_1 = after_well (allow ∷ []) before before_well

well_2 : well_formed bench t_2 ≡ true
unfolding t_2
well_2 = after_well (allow ∷ (look ∷ [])) before before_well

cells_1 : cell_of bench t_1 ≡ allowed
unfolding t_1
cells_1 x i = cells_stepped bench allow before before_well i x

cells_2 : cell_of bench t_2 ≡ looked
unfolding t_2
cells_2 x i =
    (cells_stepped bench look _ (after_well (allow ∷ []) before before_well) i
    ∙ ap (act bench look i) (cells_stepped bench allow before before_well i)) x

word_1 : word_read bench NonSecure word_9 allowed ≡ 0x2000
unfolding word_read row visible reaches may_touch sees shows pending edge_of sgi non_secure cell_of implemented home_of in_range decode
    before bit_at act performed deed_of place_of written_value listed in_column row_of target_of aims names admits effect update switched
    get put digit_at
word_1 = refl

word_2 : word_read bench NonSecure word_9 looked ≡ 0x2000
unfolding word_read row visible reaches may_touch sees shows pending edge_of sgi non_secure cell_of implemented home_of in_range decode
    before bit_at act performed deed_of place_of written_value listed in_column row_of target_of aims names admits effect update switched
    get put digit_at
word_2 = refl

first_look : read_at bench Dist 0x224 0 t_1 ≡ Ok 0x2000
first_look = seen t_1 well_1 ∙ ap (λ (cells : Cells). Ok (word_read bench NonSecure word_9 cells)) cells_1 ∙ ap Ok word_1

second_look : read_at bench Dist 0x224 0 t_2 ≡ Ok 0x2000
second_look = seen t_2 well_2 ∙ ap (λ (cells : Cells). Ok (word_read bench NonSecure word_9 cells)) cells_2 ∙ ap Ok word_2

marked : (stepped bench mark t_2).answered ≡ Ok 0
unfolding answer place_of listed in_column row_of
marked = answer_well bench mark t_2 well_2

set_word : old_or_owned word_9 0x2000 0x1000 looked ≡ 0x3000
unfolding old_or_owned row owned reaches may_touch non_secure cell_of implemented home_of in_range decode before bit_at act performed
    deed_of place_of written_value listed in_column row_of target_of aims names admits effect update switched get put digit_at
set_word = refl

third_look : read_at bench Dist 0x224 0 (written_at bench Dist 0x224 0x1000 t_2) ≡ Ok 0x3000
third_look =
    (set_pending bench t_2 well_2).dist 8 (omega arith) 0x2000 0x1000 0 0 second_look
    ∙ ap (λ (cells : Cells). Ok (old_or_owned word_9 0x2000 0x1000 cells)) cells_2
    ∙ ap Ok set_word

abbrev answers : List Answer
answers = Ok 0x2000 ∷ (Ok 0 ∷ (Ok 0x3000 ∷ []))

alone_heard : heard (sights (controller bench) before (without_private first_run)) ≡ answers
unfolding t_1 t_2
alone_heard x = first_look x ∷ (marked x ∷ (third_look x ∷ []))

pub first_heard : heard (sights (controller bench) before first_run) ≡ answers
first_heard =
    same_heard bench before before first_run (without_private first_run) (private_deleted bench before before_well first_run first_honest).1
    ∙ alone_heard

pub second_heard : heard (sights (controller bench) other second_run) ≡ answers
second_heard = sym (same_heard bench before other first_run second_run witness) ∙ first_heard

-- THE TABLE WHERE NO SECURE INTERRUPT EXISTS gives the same answers
pub none_heard : heard (sights (controller bench) (without_secure bench before) (without_private first_run)) ≡ answers
none_heard =
    sym (same_heard bench before (without_secure bench before) first_run (without_private first_run)
    (as_if_none bench before before_well first_run first_honest).1) ∙ first_heard

-- NO REFUSAL at 0x224
pub not_refused : (v : ℕ) × ((stepped bench look other).answered ≡ Ok v)
not_refused = word_answered bench other other_well _ (place.Word Dist Ispendr 9) refl at_224

-- THE SECURE RECORDS stay apart: where the Non-secure side takes its three steps SPI 45's record is 0 in the first run, 4 in the second
abbrev spi_45 : List Step → Tables → ℕ
spi_45 qs t = get_or (records_of Dist (after qs t)) 13 0

-- after these steps of each
abbrev at_1 : List Step
at_1 = rises 44 ∷ (allow ∷ [])

abbrev at_2 : List Step
at_2 = rises 44 ∷ (allow ∷ (look ∷ (rises 46 ∷ [])))

abbrev at_3 : List Step
at_3 = rises 44 ∷ (allow ∷ (look ∷ (rises 46 ∷ (mark ∷ []))))

pub first_apart : (spi_45 at_1 before ≡ 0) × (spi_45 at_2 before ≡ 0) × (spi_45 at_3 before ≡ 0)
unfolding aims deed_of place_of written_value listed in_column row_of target_of names intid_at same named frame_of before
first_apart = (
  kept_45 at_1 before (refl, (refl, tt)),
  kept_45 at_2 before (refl, (refl, (refl, (refl, tt)))),
  kept_45 at_3 before (refl, (refl, (refl, (refl, (refl, tt))))),
)

abbrev there_1 : List Step
there_1 = allow ∷ []

abbrev there_2 : List Step
there_2 = allow ∷ (look ∷ (rises 47 ∷ []))

abbrev there_3 : List Step
there_3 = allow ∷ (look ∷ (rises 47 ∷ (mark ∷ (rises 48 ∷ []))))

pub second_apart : (spi_45 there_1 other ≡ 4) × (spi_45 there_2 other ≡ 4) × (spi_45 there_3 other ≡ 4)
unfolding aims deed_of place_of written_value listed in_column row_of target_of names intid_at same named frame_of before other
second_apart = (
  kept_45 there_1 other (refl, tt),
  kept_45 there_2 other (refl, (refl, (refl, tt))),
  kept_45 there_3 other (refl, (refl, (refl, (refl, (refl, tt))))),
)
