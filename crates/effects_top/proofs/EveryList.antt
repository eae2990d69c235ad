-- Every list of hart numbers: hart 0 keeps what it must, and the others only stop.
use Rattle.std.proofs.Common.{◌≡◌, ◌≢◌, ℕ, zero, suc, ◌+◌, ◌-◌, ◌*◌, ◌<◌, ◌≤◌, List, [], ◌∷◌, ◌++◌, length, take, map, Option, Some, None, Bool, refl, sym, ap, ◌∙◌, subst, arith, ◌⊎◌, inl, inr, ⊎_elim, pos}
use Rattle.std.specs.Prelude.{slice_get, slice_set, if◌then◌else◌, All}
use Rattle.std.proofs.Math.Dec.{eqb-suc-zero}
use Rattle.effect_meaning.specs.Terms.{Place, Program}
use Rattle.effect_meaning.specs.Run.{Run, start, run}
use Rattle.effect_meaning.specs.Measures.{effort}
use Rattle.rv_model.specs.declared.instr.Op.TheVariants.{Beq, Ecall}
use Rattle.rv_model.specs.declared.instr.Instr.{Instr}
use Rattle.rv_model.specs.declared.image.Image.{Image}
use Rattle.rv_model.specs.Format.{plain}
use Rattle.rv_model.specs.Machine.{Words, Hart, Plan, Moves, Stops, Move, Goes, Waits, Stopped, Fault, plan, answered, word_at, words_after, moved, hart_of, Regs}
use Rattle.rv_model.specs.Start.{first_hart, first_harts, start_words}
use Rattle.rv_model.specs.Layout.{Keeps, IsSound, end, log_words}
use Rattle.rv_model.specs.Run.{Machine, first, turned, turn_of, hart_step, machine_run, reached, IsWithinBudget, move_of}
use Rattle.effects_top.specs.Expression.{Expression}
use Rattle.effects_top.specs.Standing.{stacks_of, EndsAs, ShowsRun, IsOf, AreOf, joined_pieces, Stands}
use Rattle.effects_top.proofs.Instructions.{HasAt, plan_at, Next, Good, fewer, keeps_same, keeps_on}
use Rattle.effects_top.proofs.Evaluates.{zeros, runs_on, own_later, program}
use Rattle.effects_top.proofs.Ending.{Ok, Over, AgreeOnEnd}

-- what the effort is at least
pub enough : (h t a b c x : ℕ) → 0 < h → x < 40000 → x < 256 * h * (t + (4096 + a + (b + c))) + 1024 * h
enough zero t a b c x some few = absurd (omega (arith, some))
enough (suc h) t a b c x some few = omega (arith, few)

pub zeros_add : (m n : ℕ) (ds : List ℕ) → zeros m ++ (zeros n ++ ds) ≡ zeros (m + n) ++ ds
zeros_add zero n ds = let z : zero + n ≡ n = omega arith in ap (λ k. zeros k ++ ds) (sym z)
zeros_add (suc m) n ds = let s : suc m + n ≡ suc (m + n) = omega arith in ap (λ l. 0 ∷ l) (zeros_add m n ds) ∙ ap (λ k. zeros k ++ ds) (sym s)

pub zeros_nil : (m : ℕ) → zeros m ++ [] ≡ zeros m
zeros_nil zero = refl
zeros_nil (suc m) = ap (λ l. 0 ∷ l) (zeros_nil m)

-- a hart other than 0 that has stopped
abbrev pub resting : ℕ → Hart
resting i = record (hart_of (first_hart i)) { pc = 4; retired = 1 }

-- a hart other than 0 at its start, or where it stopped
abbrev pub IsIdle : ℕ → Hart → Type 0
IsIdle i h = (h ≡ hart_of (first_hart i)) ⊎ (h ≡ resting i)

abbrev pub AreIdle : ℕ → List Hart → Type 0
AreIdle i [] = Unit {0}
AreIdle i (h ∷ hs) = IsIdle i h × AreIdle (suc i) hs

first_idle : (i n : ℕ) → AreIdle i (map hart_of (first_harts i n))
first_idle i zero = tt
first_idle i (suc n) = (inl refl, first_idle (suc i) n)

module _ (size : ℕ) (code : List Instr) (begins : HasAt code 0 (plain Beq 0 10 0 (pos 8) ∷ plain Ecall 0 0 0 (pos 0) ∷ [])) where
  first_plan : (i : ℕ) → plan size code (hart_of (first_hart (suc i))) ≡ Moves 4 (hart_of (first_hart (suc i))).regs
  first_plan i =
      let r : Regs = (hart_of (first_hart (suc i))).regs in
      plan_at size code 0 0 r (plain Beq 0 10 0 (pos 8)) begins.0 ∙ ap (λ (b : Bool). Moves (if b then 8 else 4) r) (eqb-suc-zero i)

  resting_plan : (i : ℕ) → plan size code (resting (suc i)) ≡ Stops
  resting_plan i = plan_at size code 1 1 (hart_of (first_hart (suc i))).regs (plain Ecall 0 0 0 (pos 0)) begins.1.0

  -- what an idle hart does next: it goes to where it stops, or it stops
  abbrev IdlePlan : ℕ → List Hart → ℕ → Hart → Type 0
  IdlePlan b hs j x = ((to : ℕ) × (r : Regs) × (plan size code x ≡ Moves to r) × AreIdle (suc b) (slice_set hs j (moved x to r))) ⊎ (plan size code x ≡ Stops)

  idle_here : (b : ℕ) (h : Hart) (hs : List Hart) → IsIdle (suc b) h → AreIdle (suc (suc b)) hs → IdlePlan b (h ∷ hs) zero h
  idle_here b h hs (inl e) rest = inl (4, h.regs, ap (plan size code) e ∙ first_plan b ∙ ap (λ (y : Hart). Moves 4 y.regs) (sym e), (inr (ap (λ (y : Hart). moved y 4 y.regs) e), rest))
  idle_here b h hs (inr e) rest = inr (ap (plan size code) e ∙ resting_plan b)

  idle_further : (b : ℕ) (h : Hart) (hs : List Hart) (j : ℕ) (x : Hart) → IsIdle (suc b) h → IdlePlan (suc b) hs j x → IdlePlan b (h ∷ hs) (suc j) x
  idle_further b h hs j x i (inl p) = inl (p.0, p.1, p.2, (i, p.3))
  idle_further b h hs j x i (inr p) = inr p

  some_same : (h x : Hart) → Some h ≡ Some x → h ≡ x
  some_same h x e = cc

  idle_plan : (b : ℕ) (hs : List Hart) (j : ℕ) (x : Hart) → AreIdle (suc b) hs → slice_get hs j ≡ Some x → IdlePlan b hs j x
  idle_plan b [] j x idle e = absurd (cc)
  idle_plan b (h ∷ hs) zero x idle e = subst (λ y. IdlePlan b (h ∷ hs) zero y) (some_same h x e) (idle_here b h hs idle.0 idle.1)
  idle_plan b (h ∷ hs) (suc j) x idle e = idle_further b h hs j x idle.0 (idle_plan (suc b) hs j x idle.1 e)

idle_few : (i : ℕ) (hs : List Hart) → AreIdle i hs → All (λ h. h.retired ≤ 1) hs
idle_few i [] idle k d h = absurd (omega arith)
idle_few i (x ∷ xs) idle zero d h = ⊎_elim (λ e. let r = ap (λ (y : Hart). y.retired) e in omega arith) (λ e. let r = ap (λ (y : Hart). y.retired) e in omega arith) idle.0
idle_few i (x ∷ xs) idle (suc k) d h = idle_few (suc i) xs idle.1 k d (omega arith)

all_less : (b : ℕ) (h : Hart) (hs : List Hart) → h.retired < b → 1 < b → All (λ x. x.retired ≤ 1) hs → All (λ x. x.retired < b) (h ∷ hs)
all_less b h hs l one few zero d lt = l
all_less b h hs l one few (suc k) d lt = let f = few k d (omega arith) in omega arith

module _ (image : Image) (file : List ℕ) (place : Place) (e : Expression) (begins : HasAt image.code 0 (plain Beq 0 10 0 (pos 8) ∷ plain Ecall 0 0 0 (pos 0) ∷ [])) (some : 0 < image.settings.domains) where
  abbrev GoodNow : ℕ → Hart → Words → ℕ → Type 0
  GoodNow n h w m = Good image.size image.code (Ok file place e image.settings.domains image.settings.out) Over n h w m

  abbrev source : Program
  source = program file place e image.settings.domains

  abbrev machine : Words → Hart → List Hart → Machine
  machine w h hs = record { words = w; harts = h ∷ hs }

  -- what is so after a hart's turn
  record Turned (n m i : ℕ) (w : Words) (s : Machine) : Type 0 where
    steps : ℕ
    words : Words
    hart : Hart
    others : List Hart
    is : s ≡ machine words hart others
    own : (i ≡ 0) ⊎ (steps ≡ 0)
    keeps : Keeps w words
    good : GoodNow n hart words (m + steps)
    idle : AreIdle 1 others

  same_turn : (n m i : ℕ) (w : Words) (h : Hart) (hs : List Hart) → GoodNow (suc n) h w m → AreIdle 1 hs → Turned n m i w (machine w h hs)
  same_turn n m i w h hs g idle =
      let z : m + 0 ≡ m = omega arith in
      record { steps = 0; words = w; hart = h; others = hs; is = refl; own = inr refl; keeps = keeps_same w; good = subst (λ k. GoodNow n h w k) (sym z) (fewer image.size image.code (Ok file place e image.settings.domains image.settings.out) Over n h w m g); idle = idle }

  turn_zero : (n m : ℕ) (w w' : Words) (h : Hart) (hs : List Hart) (p : Plan) (x : Move) → words_after p w ≡ w' → GoodNow (suc n) h w m → AreIdle 1 hs → Next (GoodNow n) Over x w' w m → Turned n m 0 w (turned (machine w h hs) 0 p x)
  turn_zero n m w w' h hs p (Goes h') is g idle x =
      let z : m + (x.0 - m) ≡ x.0 = let le = x.1 in omega arith in
      record { steps = x.0 - m; words = w'; hart = h'; others = hs; is = ap (λ v. machine v h' hs) is; own = inl refl; keeps = x.2; good = subst (λ k. GoodNow n h' w' k) (sym z) x.3; idle = idle }
  turn_zero n m w w' h hs p Waits is g idle x = absurd x
  turn_zero n m w w' h hs p Stopped is g idle x = same_turn n m 0 w h hs g idle
  turn_zero n m w w' h hs p Fault is g idle x = absurd x

  abbrev After : (n m j : ℕ) → Words → Hart → List Hart → Hart → Plan → Type 0
  After n m j w h hs x p = Turned n m (suc j) w (turned (machine w h hs) (suc j) p (answered x p (word_at p w)))

  turn_other : (n m j : ℕ) (w : Words) (h : Hart) (hs : List Hart) → GoodNow (suc n) h w m → AreIdle 1 hs → (o : Option Hart) → slice_get hs j ≡ o → Turned n m (suc j) w (turn_of image.size image.code (machine w h hs) (suc j) o)
  turn_other n m j w h hs g idle None q = same_turn n m (suc j) w h hs g idle
  turn_other n m j w h hs g idle (Some x) q = by (idle_plan image.size image.code begins 0 hs j x idle q)
    where
      by : IdlePlan image.size image.code begins 0 hs j x → After n m j w h hs x (plan image.size image.code x)
      by (inl p) = subst (After n m j w h hs x) (sym p.2) (same_turn n m (suc j) w h (slice_set hs j (moved x p.0 p.1)) g p.3)
      by (inr p) = subst (After n m j w h hs x) (sym p) (same_turn n m (suc j) w h hs g idle)

  turn : (i n m : ℕ) (w : Words) (h : Hart) (hs : List Hart) → GoodNow (suc n) h w m → AreIdle 1 hs → Turned n m i w (hart_step image i (machine w h hs))
  turn zero n m w h hs g idle = let p = plan image.size image.code h in turn_zero n m w (words_after p w) h hs p (answered h p (word_at p w)) refl g idle g.1
  turn (suc j) n m w h hs g idle = turn_other n m j w h hs g idle (slice_get hs j) refl

  -- what a moment shows
  no_fault_zero : (n m : ℕ) (w w' : Words) (x : Move) → Next (GoodNow n) Over x w' w m → x ≢ Fault
  no_fault_zero n m w w' (Goes h) x f = cc
  no_fault_zero n m w w' Waits x f = x
  no_fault_zero n m w w' Stopped x f = cc
  no_fault_zero n m w w' Fault x f = x

  no_fault_other : (w : Words) (hs : List Hart) (j : ℕ) (x : Hart) → IdlePlan image.size image.code begins 0 hs j x → move_of image w x ≢ Fault
  no_fault_other w hs j x (inl p) f = let q : Goes (moved x p.0 p.1) ≡ Fault = subst (λ y. answered x y (word_at y w) ≡ Fault) p.2 f in cc
  no_fault_other w hs j x (inr p) f = let q : Stopped ≡ Fault = subst (λ y. answered x y (word_at y w) ≡ Fault) p f in cc

  no_fault : (n m : ℕ) (w : Words) (h : Hart) (hs : List Hart) → GoodNow (suc n) h w m → AreIdle 1 hs → (i : ℕ) (x : Hart) → slice_get (h ∷ hs) i ≡ Some x → move_of image w x ≢ Fault
  no_fault n m w h hs g idle zero x q =
      let p = plan image.size image.code h in
      subst (λ y. move_of image w y ≢ Fault) (some_same image.size image.code begins h x q) (no_fault_zero n m w (words_after p w) (answered h p (word_at p w)) g.1)
  no_fault n m w h hs g idle (suc j) x q = no_fault_other w hs j x (idle_plan image.size image.code begins 0 hs j x idle q)

  none_over : (w : Words) → Over 0 w → end w ≡ None → ⊥
  none_over w a b = cc

  never_rests : (n m : ℕ) (w w' : Words) (x : Move) → Next (GoodNow n) Over x w' w m → end w ≡ None → ((next : Hart) → x ≢ Goes next) → ⊥
  never_rests n m w w' (Goes h) x running still = still h refl
  never_rests n m w w' Waits x running still = x
  never_rests n m w w' Stopped x running still = none_over w x running
  never_rests n m w w' Fault x running still = x

  shows_now : (n m : ℕ) (w : Words) (h : Hart) (hs : List Hart) → GoodNow (suc n) h w m → AreIdle 1 hs → ShowsRun source image (machine w h hs) (zeros m)
  shows_now n m w h hs g idle = record {
    last = g.0.config;
    leads = g.0.leads.to;
    output = g.0.output;
    ends = by g.0.ended;
  }
    where
      r : Run source image.settings.domains
      r = record { list = zeros m; last = g.0.config; leads = g.0.leads.to }

      few : (x : ℕ) → x < 40000 → x < effort source image.settings.domains (stacks_of image.settings) r
      few x l = enough image.settings.domains _ _ _ _ x some l

      by : AgreeOnEnd w g.0.config → EndsAs source image (machine w h hs) r (end w)
      by (inl both) = subst (EndsAs source image (machine w h hs) r) (sym both.0) (record {
        running = both.1;
        bounded = all_less _ h hs (few h.retired g.0.count) (few 1 (omega arith)) (idle_few 1 hs idle);
        settled = λ still. let p = plan image.size image.code h in absurd (never_rests n m w (words_after p w) (answered h p (word_at p w)) g.1 both.0 (λ next. still 0 h next refl));
      })
      by (inr both) = subst (EndsAs source image (machine w h hs) r) (sym both.0) both.1

  -- every list, with the pieces of its run
  record Traced (m : ℕ) (s : Machine) (list : List ℕ) : Type 0 where
    pieces : List (List ℕ)
    own : AreOf source list pieces (run source image.settings.domains (zeros m))
    shows : (k : ℕ) → k ≤ length list → ShowsRun source image (machine_run image s (take k list)) (zeros m ++ joined_pieces (take k pieces))

  shows_none : (m : ℕ) (s : Machine) → ShowsRun source image s (zeros m) → (k : ℕ) → ShowsRun source image (machine_run image s (take k [])) (zeros m ++ joined_pieces (take k []))
  shows_none m s now zero = subst (λ r. ShowsRun source image s r) (sym (zeros_nil m)) now
  shows_none m s now (suc k) = subst (λ r. ShowsRun source image s r) (sym (zeros_nil m)) now

  -- the piece of one hart number
  piece_own : (m d i : ℕ) → (i ≡ 0) ⊎ (d ≡ 0) → IsOf source 0 (zeros (m + d)) (Some (start source image.settings.domains)) → IsOf source i (zeros d) (run source image.settings.domains (zeros m))
  piece_own m d i (inl z) own = subst (λ j. IsOf source j (zeros d) (run source image.settings.domains (zeros m))) (sym z) (own_later source m d (Some (start source image.settings.domains)) own)
  piece_own m d i (inr z) own = subst (λ k. IsOf source i (zeros k) (run source image.settings.domains (zeros m))) (sym z) tt

  pieces_on : (m d : ℕ) (s : Machine) (i : ℕ) (is : List ℕ) → ShowsRun source image s (zeros m) → IsOf source i (zeros d) (run source image.settings.domains (zeros m)) → Traced (m + d) (hart_step image i s) is → Traced m s (i ∷ is)
  pieces_on m d s i is now own rest = record {
    pieces = zeros d ∷ rest.pieces;
    own = (own, subst (AreOf source is rest.pieces) (runs_on source m d (start source image.settings.domains)) rest.own);
    shows = at_moment;
  }
    where
      at_moment : (k : ℕ) → k ≤ length (i ∷ is) → ShowsRun source image (machine_run image s (take k (i ∷ is))) (zeros m ++ joined_pieces (take k (zeros d ∷ rest.pieces)))
      at_moment zero h = subst (λ r. ShowsRun source image s r) (sym (zeros_nil m)) now
      at_moment (suc k) h = subst (λ r. ShowsRun source image (machine_run image (hart_step image i s) (take k is)) r) (sym (zeros_add m d (joined_pieces (take k rest.pieces)))) (rest.shows k (omega arith))

  traced : (list : List ℕ) (n m : ℕ) (w : Words) (h : Hart) (hs : List Hart) → length list < n → GoodNow n h w m → AreIdle 1 hs → Traced m (machine w h hs) list
  traced list zero m w h hs more g idle = absurd (omega (arith, more))
  traced [] (suc n) m w h hs more g idle = record {
    pieces = [];
    own = tt;
    shows = λ k le. shows_none m (machine w h hs) (shows_now n m w h hs g idle) k;
  }
  traced (i ∷ is) (suc zero) m w h hs more g idle = absurd (omega (arith, more))
  traced (i ∷ is) (suc (suc n)) m w h hs more g idle =
      let o = turn i (suc n) m w h hs g idle in
      let rest = traced is (suc n) (m + o.steps) o.words o.hart o.others (omega (arith, more)) o.good o.idle in
      pieces_on m o.steps (machine w h hs) i is (shows_now (suc n) m w h hs g idle) (piece_own m o.steps i o.own o.good.0.leads.own) (subst (λ s. Traced (m + o.steps) s is) (sym o.is) rest)

  -- where a list leads
  record Moved (n m : ℕ) (w : Words) (s : Machine) : Type 0 where
    steps : ℕ
    words : Words
    hart : Hart
    others : List Hart
    is : s ≡ machine words hart others
    keeps : Keeps w words
    good : GoodNow n hart words (m + steps)
    idle : AreIdle 1 others

  moved_on : (n m d : ℕ) (w w' : Words) (s : Machine) → Keeps w w' → Moved n (m + d) w' s → Moved n m w s
  moved_on n m d w w' s keeps x =
      let z : m + d + x.steps ≡ m + (d + x.steps) = omega arith in
      record { steps = d + x.steps; words = x.words; hart = x.hart; others = x.others; is = x.is; keeps = keeps_on w w' x.words keeps x.keeps; good = subst (λ k. GoodNow n x.hart x.words k) z x.good; idle = x.idle }

  moved_list : (list : List ℕ) (n m : ℕ) (w : Words) (h : Hart) (hs : List Hart) → GoodNow (length list + n) h w m → AreIdle 1 hs → Moved n m w (machine_run image (machine w h hs) list)
  moved_list [] n m w h hs g idle =
      let y : m ≡ m + 0 = omega arith in
      let z : 0 + n ≡ n = omega arith in
      record { steps = 0; words = w; hart = h; others = hs; is = refl; keeps = keeps_same w; good = subst (λ k. GoodNow n h w k) y (subst (λ k. GoodNow k h w m) z g); idle = idle }
  moved_list (i ∷ is) n m w h hs g idle =
      let z : length (i ∷ is) + n ≡ suc (length is + n) = omega arith in
      let o = turn i (length is + n) m w h hs (subst (λ k. GoodNow k h w m) z g) idle in
      moved_on n m o.steps w o.words _ o.keeps (subst (λ s. Moved n (m + o.steps) o.words (machine_run image s is)) (sym o.is) (moved_list is n (m + o.steps) o.words o.hart o.others o.good o.idle))

  run_append : (a b : List ℕ) (s : Machine) → machine_run image s (a ++ b) ≡ machine_run image (machine_run image s a) b
  run_append [] b s = refl
  run_append (i ∷ a) b s = run_append a b (hart_step image i s)

  first_parts : (d : ℕ) → 0 < d → (hs : List Hart) × (map hart_of (first_harts 0 d) ≡ hart_of (first_hart 0) ∷ hs) × AreIdle 1 hs
  first_parts zero h = absurd (omega (arith, h))
  first_parts (suc d) h = (map hart_of (first_harts 1 d), refl, first_idle 1 d)

  abbrev Faultless : Machine → Type 0
  Faultless s = (i : ℕ) (h : Hart) → slice_get s.harts i ≡ Some h → move_of image s.words h ≢ Fault

  abbrev Onward : List ℕ → Machine → Type 0
  Onward more s = Keeps s.words (machine_run image s more).words

  -- an image whose hart 0 keeps what it must stands for the program
  pub stands : ((n : ℕ) → GoodNow n (hart_of (first_hart 0)) (start_words image.start) 0) → 144 + log_words image.settings.out ≤ image.size → Stands (program file place e image.settings.domains) image
  stands good room = record {
    runs = record { room = room; no_fault = never_faults; sound = sound; keeps = keeps };
    shows = λ list within.
        let t = traced list (suc (length list)) 0 w0 h0 hs (omega arith) (good (suc (length list))) idle in
        let t' = subst (λ s. Traced 0 s list) (sym first_are) t in
        record { pieces = t'.pieces; own = t'.own; shows = t'.shows };
  }
    where
      parts : (hs : List Hart) × (map hart_of (first_harts 0 image.settings.domains) ≡ hart_of (first_hart 0) ∷ hs) × AreIdle 1 hs
      parts = first_parts image.settings.domains some

      w0 : Words
      w0 = start_words image.start

      h0 : Hart
      h0 = hart_of (first_hart 0)

      hs : List Hart
      hs = parts.0

      idle : AreIdle 1 hs
      idle = parts.2

      first_are : first image ≡ machine w0 h0 hs
      first_are = ap (λ l. record { words = w0; harts = l }) parts.1

      reach : (n : ℕ) (list : List ℕ) → Moved n 0 w0 (reached image list)
      reach n list = subst (λ s. Moved n 0 w0 (machine_run image s list)) (sym first_are) (moved_list list n 0 w0 h0 hs (good (length list + n)) idle)

      never_faults : (list : List ℕ) → IsWithinBudget image list → Faultless (reached image list)
      never_faults list within = let x = reach 1 list in subst Faultless (sym x.is) (no_fault 0 (0 + x.steps) x.words x.hart x.others x.good x.idle)

      sound : (list : List ℕ) → IsWithinBudget image list → IsSound image.settings.out (reached image list).words
      sound list within = let x = reach 1 list in subst (λ (s : Machine). IsSound image.settings.out s.words) (sym x.is) x.good.0.sound

      keeps : (list more : List ℕ) → IsWithinBudget image list → IsWithinBudget image (list ++ more) → Keeps (reached image list).words (reached image (list ++ more)).words
      keeps list more within fits =
          let x = reach (length more + 1) list in
          let y = moved_list more 1 (0 + x.steps) x.words x.hart x.others x.good x.idle in
          let k : Onward more (machine x.words x.hart x.others) = subst (λ (s : Machine). Keeps x.words s.words) (sym y.is) y.keeps in
          subst (λ (s : Machine). Keeps (reached image list).words s.words) (sym (run_append list more (first image))) (subst (Onward more) (sym x.is) k)
