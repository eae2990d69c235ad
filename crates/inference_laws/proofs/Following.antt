-- States that follow one another, and what still holds there.
use Rattle.std.proofs.Common.{◌≡◌, ℕ, ◌<◌, List, [], ◌∷◌, ◌++◌, length, Option, Some, None, Bool, true, false, ◌==◌, ◌||◌, not, refl, sym, ◌∙◌, ap, subst, arith, ⊎_elim}
use Rattle.std.specs.Prelude.{IsTrue}
use Rattle.std.specs.List.{AllByRecursion}
use Rattle.std.proofs.lemmas.Bool.Decides.{eqb_tells}
use Rattle.effect_meaning.specs.Arena.{Parts}
use Rattle.effect_meaning.specs.Scoped.{Scope, holds, is_new, with_names}
use Rattle.type_terms.specs.TypeTrees.{Ty}
use Rattle.type_terms.specs.Contexts.{Names}
use Rattle.type_readings.specs.WellFormed.{IsOuterOr}
use Rattle.ml_infer.specs.declared.inference.Inference.{Inference}
use Rattle.ml_infer.specs.declared.inference.NameType.{NameType}
use Rattle.ml_infer.specs.declared.inference.NameType.TheVariants.{One, Generalised}
use Rattle.ml_infer.specs.Inference.{name_noted}
use Rattle.ml_infer.specs.Known.{known}
use Rattle.ml_infer.specs.Members.{count_of}
use Rattle.inference_laws.specs.Whole.{HasRoom}
use Rattle.inference_laws.specs.Meanings.{LeadsTo, VariablesAgree}
use Rattle.inference_laws.proofs.Kept.{Kept, kept_here, kept_on, room_before}
use Rattle.inference_laws.proofs.Booleans.{either_holds, fails, first_holds}
use Rattle.inference_laws.proofs.Noting.{noted_other}
use Rattle.inference_laws.proofs.Grounds.{Tops, NamesAgree, TopIs, names_of, scope_of, HasScope, Ground, Follows}

-- a name is among more names
pub holds_behind : (xs ys : List ℕ) (x : ℕ) → IsTrue (holds ys x) → IsTrue (holds (xs ++ ys) x)
holds_behind [] ys x h = h
holds_behind (z ∷ xs) ys x h = either_holds (x == z) (holds (xs ++ ys) x) (holds_behind xs ys x h)

pub holds_first : (x : ℕ) (xs : List ℕ) → IsTrue (holds (x ∷ xs) x)
holds_first x xs =
    first_holds (x == x) (holds xs x)
    (⊎_elim (λ p. p.0) (λ p. absurd (p.1 refl)) (eqb_tells x x))

pub holds_later : (z x : ℕ) (xs : List ℕ) → IsTrue (holds xs x) → IsTrue (holds (z ∷ xs) x)
holds_later z x xs h = either_holds (x == z) (holds xs x) h

-- a new name is none of those in scope
pub new_apart :
    (sc : Scope) (xs : List ℕ) (x y : ℕ) → IsTrue (is_new sc x) → holds sc.names y ≡ holds xs y → IsTrue (holds xs y) → y ≡ x → ⊥
new_apart sc xs x y new same is e =
    let held : IsTrue (holds sc.names x) = subst (λ z. IsTrue (holds sc.names z)) e (subst IsTrue (sym same) is) in
    clash (holds sc.names x) new held
  where
    clash : (b : Bool) → IsTrue (not b) → IsTrue b → ⊥
    clash true n h = fails n
    clash false n h = fails h

module _ (p : Parts) where
  pub follows_on : (scope : List ℕ) (s m e : Inference) → Follows p scope s m → Follows p scope m e → Follows p scope s e
  follows_on scope s m e a b = record {
    kept = kept_on s m e a.kept b.kept;
    item = b.item ∙ a.item;
    stay = λ v k is item. b.stay v k (a.stay v k is item) (item ∙ sym a.item);
    meant = λ room on meant. b.meant room on (a.meant (room_before m e b.kept room) (b.kept.ended on) meant);
    same = λ x is. b.same x is ∙ a.same x is;
  }

  -- where no names are noted
  pub follows_leads : (scope : List ℕ) (s e : Inference) → Kept s e → LeadsTo p s e → Follows p scope s e
  follows_leads scope s e kept leads = record {
    kept = kept;
    item = leads.rest.same_item;
    stay = leads.stay;
    meant = leads.meant;
    same = λ x is. ap (λ xs. known xs x) leads.rest.same_names;
  }

  -- of fewer names
  pub follows_within :
      (less more : List ℕ) (s e : Inference) → ((x : ℕ) → IsTrue (holds less x) → IsTrue (holds more x)) → Follows p more s e
      → Follows p less s e
  follows_within less more s e among a = record {
    kept = a.kept;
    item = a.item;
    stay = a.stay;
    meant = a.meant;
    same = λ x is. a.same x (among x is);
  }

  -- where a name that is none of these is noted
  pub follows_noted :
      (scope : List ℕ) (s : Inference) (x : ℕ) (k : NameType) → Kept s (name_noted x k s)
      → ((y : ℕ) → IsTrue (holds scope y) → y ≡ x → ⊥) → Follows p scope s (name_noted x k s)
  follows_noted scope s x k kept apart = record {
    kept = kept;
    item = refl;
    stay = λ v n is item. is;
    meant = λ room on meant. meant;
    same = λ y is. noted_other x y k s.names (apart y is);
  }

  -- type variables that agree at the end agree before
  pub agree_at :
      (f vs : ℕ → Ty) (scope : List ℕ) (s e : Inference) → Follows p scope s e → VariablesAgree f vs e → VariablesAgree f vs s
  agree_at f vs scope s e a agree v k is item = agree v k (a.stay v k is item) (item ∙ sym a.item)

module _ (p : Parts) (f : ℕ → Ty) (tops : Tops) where
  locals_later :
      (s e : Inference) (scope : List ℕ) (names : Names) → ((x : ℕ) → IsTrue (holds scope x) → known e.names x ≡ known s.names x)
      → ((x : ℕ) → IsTrue (holds (names_of names) x) → IsTrue (holds scope x)) → NamesAgree f s names → NamesAgree f e names
  locals_later s e scope [] same among agree = tt
  locals_later s e scope (n ∷ names) same among agree =
      let head = agree.0 in (
        (head.0, head.1, same n.0 (among n.0 (holds_first n.0 (names_of names))) ∙ head.2, head.3),
        locals_later s e scope names same (λ x is. among x (holds_later n.0 x (names_of names) is)) agree.1,
      )

  top_later :
      (s e : Inference) → Kept s e → HasRoom e.types → e.end ≡ None → (x : ℕ) (o : Option NameType) → TopIs f s tops x o
      → TopIs f e tops x o
  top_later s e kept room on x None h = h
  top_later s e kept room on x (Some (One v q)) h = h
  top_later s e kept room on x (Some (Generalised v)) h = λ k reads same. h k (kept.reads room on k reads) same

  outers_later :
      (s e : Inference) → Kept s e → HasRoom e.types → e.end ≡ None → (ms : List ℕ)
      → AllByRecursion (λ m. (m < length s.types.nodes) × IsOuterOr s.types s.types.given m) ms
      → AllByRecursion (λ m. (m < length e.types.nodes) × IsOuterOr e.types e.types.given m) ms
  outers_later s e kept room on [] h = tt
  outers_later s e kept room on (m ∷ ms) h =
      let low = h.0.0 in
      let up = kept.types in
      ((omega arith, kept.outer room on m low h.0.1), outers_later s e kept room on ms h.1)

  -- what held where a term stood holds later
  pub ground_later :
      (s e : Inference) (names : Names) → HasRoom e.types → e.end ≡ None → Ground p f tops s names
      → Follows p (scope_of tops names) s e
      → Ground p f tops e names
  ground_later s e names room on g a = record {
    here = kept_here s e a.kept;
    meant = λ r. a.meant r on (g.meant (room_before s e a.kept r));
    counted = λ t low. ap (λ ms. count_of ms t) a.kept.counted ∙ g.counted t low;
    locals =
        locals_later s e (scope_of tops names) names a.same (λ x is. in_front (names_of names) tops.names x is) g.locals;
    globals =
        λ x is.
        subst (TopIs f e tops x) (sym (a.same x (holds_behind (names_of names) tops.names x is)))
        (top_later s e a.kept room on x (known s.names x) (g.globals x is));
    outers = λ r. outers_later s e a.kept r on tops.outers (g.outers (room_before s e a.kept r));
  }
    where
      in_front : (xs ys : List ℕ) (x : ℕ) → IsTrue (holds xs x) → IsTrue (holds (xs ++ ys) x)
      in_front [] ys x is = absurd (fails is)
      in_front (z ∷ xs) ys x is = front_or (x == z) (holds xs x) (holds (xs ++ ys) x) (in_front xs ys x) is
        where
          front_or : (a b c : Bool) → (IsTrue b → IsTrue c) → IsTrue (a || b) → IsTrue (a || c)
          front_or true b c so is = refl
          front_or false b c so is = so is

  -- with a further name
  pub ground_with :
      (e : Inference) (names : Names) (x v q : ℕ) (t : Ty) → Ground p f tops e names → known e.names x ≡ Some (One v q) → f v ≡ t
      → Ground p f tops e ((x, t) ∷ names)
  ground_with e names x v q t g is reads = record {
    here = g.here;
    meant = g.meant;
    locals = ((v, q, is, reads), g.locals);
    counted = g.counted;
    globals = g.globals;
    outers = g.outers;
  }

-- a scope with a further name
pub scope_with :
    (sc : Scope) (tops : Tops) (names : Names) (x : ℕ) (t : Ty) → HasScope sc tops names
    → HasScope (with_names (x ∷ []) sc) tops ((x, t) ∷ names)
scope_with sc tops names x t same y = ap (λ b. (y == x) || b) (same y)
