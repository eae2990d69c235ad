-- Tasks that put others first: the parts of what is done behind them, and what follows there.
use Rattle.std.proofs.Common.{◌≡◌, ℕ, List, [], ◌∷◌, ◌++◌, Option, Bool, true, false, ◌==◌, ◌||◌, not, refl, sym, ◌∙◌, ap, subst, ⊎_elim}
use Rattle.std.specs.Prelude.{IsTrue}
use Rattle.std.specs.List.{AllByRecursion, list_all}
use Rattle.std.proofs.lemmas.Bool.Decides.{eqb_tells}
use Rattle.std.proofs.lemmas.List.Folds.{list_any-append}
use Rattle.effect_meaning.specs.Arena.{Parts, Counts, Need, AllMet}
use Rattle.effect_meaning.specs.Scoped.{Scope, are_new, differ, holds, is_new, with_names}
use Rattle.type_terms.specs.TypeTrees.{Ty}
use Rattle.type_terms.specs.Contexts.{Names}
use Rattle.ml_infer.specs.declared.inference.Inference.{Inference}
use Rattle.ml_infer.specs.declared.inference.KnownVariable.{KnownVariable}
use Rattle.ml_infer.specs.declared.inference.Read.{Read}
use Rattle.ml_infer.specs.declared.tasks.Task.{Task}
use Rattle.ml_infer.specs.Known.{known}
use Rattle.ml_infer.specs.Walk.{acted}
use Rattle.inference_laws.specs.Whole.{TaskIsThere}
use Rattle.inference_laws.proofs.Each.{each_appended}
use Rattle.inference_laws.proofs.Kept.{Kept, Roomy, kept_here, room_before}
use Rattle.inference_laws.proofs.GraphLaws.{GraphLaws}
use Rattle.inference_laws.proofs.Walk.{acted_kept}
use Rattle.inference_laws.proofs.Runs.{left, Does, begins, parted}
use Rattle.inference_laws.proofs.Grounds.{Tops, NameAgrees, names_of, scope_of, HasScope, Ground, Ending, Follows}
use Rattle.inference_laws.proofs.Booleans.{both_hold, fails}
use Rattle.inference_laws.proofs.Following.{holds_behind, holds_first}
use Rattle.inference_laws.proofs.Doing.{does_kept}
use Rattle.inference_laws.proofs.TasksDone.{task_left}

module _ (l : GraphLaws) (p : Parts) where
  -- a task is begun: the state behind its step, and what it puts first, which is done from there
  pub record Opened (rest new : List Task) (t : Task) (s s1 e : Inference) : Type 0 where
    pub kept : Kept s s1
    pub there : Roomy s (λ types. TaskIsThere types t)
    pub steps : ℕ
    pub others : Does p rest steps new s1 e

  pub opened :
      (rest new : List Task) (k : ℕ) (t : Task) (s s1 e : Inference) → Does p rest k (t ∷ []) s e → Kept s s
      → acted t p (left rest s) ≡ s1
      → s1.tasks ≡ new ++ rest → Opened rest new t s s1 e
  opened rest new k t s s1 e d kept one pushed =
      let both = task_left l p rest k t s e d kept in
      let b = begins p rest k t new s e d (ap (λ (x : Inference). x.tasks) one ∙ pushed) in
      record {
        kept = subst (Kept s) one (acted_kept l p s (left rest s) both.0 t b.goes_on both.1);
        there = both.1;
        steps = b.steps;
        others = subst (λ (x : Inference). Does p rest b.steps new x e) one b.others;
      }

  -- some tasks are done, and then the others, up to an end where the walk goes on
  pub record Split (f : ℕ → Ty) (rest ts us : List Task) (s e : Inference) : Type 0 where
    pub middle : Inference
    pub first_steps : ℕ
    pub first_part : Does p (us ++ rest) first_steps ts s middle
    pub other_steps : ℕ
    pub other_part : Does p rest other_steps us middle e
    pub before : Kept s middle
    pub here : Kept middle middle
    pub behind : Kept middle e
    pub ending : Ending f middle

  pub split :
      (f : ℕ → Ty) (rest : List Task) (k : ℕ) (ts us : List Task) (s e : Inference) → Does p rest k (ts ++ us) s e → Kept s s
      → Ending f e
      → Split f rest ts us s e
  split f rest k ts us s e d kept ending =
      let q = parted p rest k ts us s e d in
      let before = does_kept l p (us ++ rest) q.first_steps ts s s q.middle q.first_part kept in
      let here = kept_here s q.middle before in
      let behind = does_kept l p rest q.other_steps us q.middle q.middle e q.other_part here in
      record {
        middle = q.middle;
        first_steps = q.first_steps;
        first_part = q.first_part;
        other_steps = q.other_steps;
        other_part = q.other_part;
        before = before;
        here = here;
        behind = behind;
        ending = record {
          room = room_before q.middle e behind ending.room;
          on = behind.ended ending.on;
          reads = behind.reads ending.room ending.on f ending.reads;
        };
      }

  -- a state follows where of type variables, written types and these names the same is known
  pub follows_same :
      (scope : List ℕ) (s e : Inference) → Kept s e → e.item ≡ s.item → e.variables ≡ s.variables → e.read ≡ s.read
      → ((x : ℕ) → IsTrue (holds scope x) → known e.names x ≡ known s.names x) → Follows p scope s e
  follows_same scope s e kept item variables read same = record {
    kept = kept;
    item = item;
    stay = λ v k is n. ap (λ (xs : List (Option KnownVariable)). known xs v) variables ∙ is;
    meant =
        λ room on meant f reads n r is.
        meant f (kept.reads room on f reads) n r (sym (ap (λ (xs : List (Option Read)). known xs n) read) ∙ is);
    same = same;
  }

  pub follows_here : (scope : List ℕ) (s : Inference) → Kept s s → Follows p scope s s
  follows_here scope s kept = follows_same scope s s kept refl refl refl (λ x is. refl)

-- needs that are met one after another
pub met_parts : (c : Counts) (xs ys : List Need) → AllMet c (xs ++ ys) → AllMet c xs × AllMet c ys
met_parts c [] ys met = (tt, met)
met_parts c (x ∷ xs) ys met = let more = met_parts c xs ys met.1 in ((met.0, more.0), more.1)

-- new names are none of those in scope
pub none_held : (sc : Scope) (xs : List ℕ) (x : ℕ) → IsTrue (list_all (is_new sc) xs) → IsTrue (holds sc.names x)
    → holds xs x ≡ false
none_held sc [] x new is = refl
none_held sc (y ∷ xs) x new is =
    let both = both_hold (is_new sc y) (list_all (is_new sc) xs) new in
    ⊎_elim (λ k. absurd (clash (holds sc.names y) both.0 (subst (λ z. IsTrue (holds sc.names z)) k.1 is)))
    (λ k. ap (λ b. b || holds xs x) k.0 ∙ none_held sc xs x both.1 is) (eqb_tells x y)
  where
    clash : (b : Bool) → IsTrue (not b) → IsTrue b → ⊥
    clash true n h = fails n
    clash false n h = fails h

-- with further names a scope has these first
pub scope_appended : (tops : Tops) (ns names : Names) → scope_of tops (ns ++ names) ≡ names_of ns ++ scope_of tops names
scope_appended tops [] names = refl
scope_appended tops (n ∷ ns) names = ap (λ (xs : List ℕ). n.0 ∷ xs) (scope_appended tops ns names)

pub within_names :
    (tops : Tops) (ns names : Names) (x : ℕ) → IsTrue (holds (scope_of tops names) x)
    → IsTrue (holds (scope_of tops (ns ++ names)) x)
within_names tops ns names x is =
    subst (λ (xs : List ℕ). IsTrue (holds xs x)) (sym (scope_appended tops ns names))
    (holds_behind (names_of ns) (scope_of tops names) x is)

pub scope_with_names :
    (sc : Scope) (tops : Tops) (names ns : Names) (xs : List ℕ) → ((x : ℕ) → holds (names_of ns) x ≡ holds xs x)
    → HasScope sc tops names
    → HasScope (with_names xs sc) tops (ns ++ names)
scope_with_names sc tops names ns xs keys same x =
    list_any-append (λ y. x == y) xs sc.names ∙ ap (λ b. b || holds sc.names x) (sym (keys x))
    ∙ ap (λ b. holds (names_of ns) x || b) (same x) ∙ sym (list_any-append (λ y. x == y) (names_of ns) (scope_of tops names))
    ∙ ap (λ (ys : List ℕ). holds ys x) (sym (scope_appended tops ns names))

-- where further names have their types
pub ground_with_names :
    (p : Parts) (f : ℕ → Ty) (tops : Tops) (e : Inference) (names ns : Names) → Ground p f tops e names
    → AllByRecursion (NameAgrees f e) ns
    → Ground p f tops e (ns ++ names)
ground_with_names p f tops e names ns g all = record {
  here = g.here;
  meant = g.meant;
  locals = each_appended (NameAgrees f e) ns names all g.locals;
  counted = g.counted;
  globals = g.globals;
  outers = g.outers;
}

-- names, and then a further one
pub keys_with : (ns : Names) (xs : List ℕ) (y : ℕ) (t : Ty) → ((x : ℕ) → holds (names_of ns) x ≡ holds xs x) → (x : ℕ)
    → holds (names_of ((y, t) ∷ ns)) x ≡ holds (xs ++ y ∷ []) x
keys_with ns xs y t keys x =
    ap (λ b. (x == y) || b) (keys x) ∙ turned (x == y) (holds xs x) ∙ sym (list_any-append (λ z. x == z) xs (y ∷ []))
  where
    turned : (a b : Bool) → (a || b) ≡ (b || (a || false))
    turned true true = refl
    turned true false = refl
    turned false true = refl
    turned false false = refl

-- a last new name is neither in scope nor among the names before it
new_last : (sc : Scope) (xs : List ℕ) (y : ℕ) → IsTrue (list_all (is_new sc) (xs ++ y ∷ [])) → IsTrue (is_new sc y)
new_last sc [] y new = (both_hold (is_new sc y) true new).0
new_last sc (x ∷ xs) y new = new_last sc xs y (both_hold (is_new sc x) (list_all (is_new sc) (xs ++ y ∷ [])) new).1

pub unheld : (b : Bool) → IsTrue (not b) → b ≡ false
unheld true b = absurd (fails b)
unheld false b = refl

pub either_false : (a b : Bool) → (a || b) ≡ false → a ≡ false
either_false true b h = h
either_false false b h = refl

differ_last : (xs : List ℕ) (y : ℕ) → IsTrue (differ (xs ++ y ∷ [])) → holds xs y ≡ false
differ_last [] y new = refl
differ_last (x ∷ xs) y new =
    let both = both_hold (not (holds (xs ++ y ∷ []) x)) (differ (xs ++ y ∷ [])) new in
    ⊎_elim
    (λ h.
    absurd (fails (subst IsTrue (unheld (holds (xs ++ y ∷ []) x) both.0)
    (holds_behind xs (y ∷ []) x (subst (λ z. IsTrue (holds (y ∷ []) z)) h.1 (holds_first y []))))))
    (λ h. ap (λ b. b || holds xs y) h.0 ∙ differ_last xs y both.1) (eqb_tells y x)

pub apart_from :
    (sc : Scope) (tops : Tops) (names ns : Names) (xs : List ℕ) (y : ℕ) → IsTrue (are_new sc (xs ++ y ∷ []))
    → HasScope sc tops names
    → ((x : ℕ) → holds (names_of ns) x ≡ holds xs x) → (z : ℕ) → IsTrue (holds (scope_of tops (ns ++ names)) z) → z ≡ y → ⊥
apart_from sc tops names ns xs y new scope keys z is same =
    let here = scope_of tops names in
    let both = both_hold (differ (xs ++ y ∷ [])) (list_all (is_new sc) (xs ++ y ∷ [])) new in
    let one : holds (names_of ns) y ≡ false = keys y ∙ differ_last xs y both.0 in
    let two : holds here y ≡ false = sym (scope y) ∙ unheld (holds sc.names y) (new_last sc xs y both.1) in
    let all : holds (scope_of tops (ns ++ names)) y ≡ false =
    ap (λ (ys : List ℕ). holds ys y) (scope_appended tops ns names) ∙ list_any-append (λ w. y == w) (names_of ns) here
    ∙ ap (λ b. b || holds here y) one ∙ two in
    fails (subst IsTrue all (subst (λ w. IsTrue (holds (scope_of tops (ns ++ names)) w)) same is))

-- names that stand first in a scope are in it
pub names_first :
    (tops : Tops) (ns names : Names) (x : ℕ) → IsTrue (holds (names_of ns) x) → IsTrue (holds (scope_of tops (ns ++ names)) x)
names_first tops ns names x is =
    subst (λ (xs : List ℕ). IsTrue (holds xs x)) (sym (scope_appended tops ns names))
    (in_front (names_of ns) (scope_of tops names) x is)
  where
    in_front : (xs ys : List ℕ) (x : ℕ) → IsTrue (holds xs x) → IsTrue (holds (xs ++ ys) x)
    in_front [] ys x is = absurd (fails is)
    in_front (z ∷ xs) ys x is = front_or (x == z) (holds xs x) (holds (xs ++ ys) x) (in_front xs ys x) is
      where
        front_or : (a b c : Bool) → (IsTrue b → IsTrue c) → IsTrue (a || b) → IsTrue (a || c)
        front_or true b c so is = refl
        front_or false b c so is = so is
