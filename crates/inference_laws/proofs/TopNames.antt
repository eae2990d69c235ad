-- What is known of top-level names between items, and the types that their uses may have.
use Rattle.std.proofs.Common.{◌≡◌, ℕ, ◌<◌, ◌==◌, ◌||◌, false, List, [], ◌∷◌, ◌++◌, length, map, Option, Some, None, refl, sym, ◌∙◌, ap, subst, arith, ⊎_elim}
use Rattle.std.specs.Prelude.{IsTrue}
use Rattle.std.specs.List.{AllByRecursion}
use Rattle.std.proofs.lemmas.Bool.Decides.{eqb_tells}
use Rattle.effect_meaning.specs.Arena.{Parts}
use Rattle.effect_meaning.specs.ArenaTrees.{program}
use Rattle.effect_meaning.specs.Scoped.{Scope, function_names, holds, with_names}
use Rattle.effect_meaning.specs.Terms.{Functions, Term}
use Rattle.type_graph.specs.Graph.{built_in}
use Rattle.type_terms.specs.TypeTrees.{Ty}
use Rattle.type_terms.specs.Contexts.{Names}
use Rattle.type_terms.specs.Items.{Top, OneType, Generalised as GeneralisedTop, Group, uses}
use Rattle.type_readings.specs.Readings.{Reads}
use Rattle.type_readings.specs.WellFormed.{IsOuterOr}
use Rattle.ml_infer.specs.declared.inference.Inference.{Inference}
use Rattle.ml_infer.specs.declared.inference.NameType.{NameType}
use Rattle.ml_infer.specs.declared.inference.NameType.TheVariants.{One, Generalised}
use Rattle.ml_infer.specs.Inference.{name_noted}
use Rattle.ml_infer.specs.Known.{known, noted}
use Rattle.ml_infer.specs.Members.{count_of}
use Rattle.inference_laws.specs.Whole.{HasRoom}
use Rattle.inference_laws.specs.Meanings.{ReadsAreMeant}
use Rattle.inference_laws.proofs.Kept.{Kept, kept_here, kept_on, room_before}
use Rattle.inference_laws.proofs.Noting.{noted_other, noted_same}
use Rattle.inference_laws.proofs.Grounds.{Tops, TopIs, HasScope, Ground, Follows, FieldsAreCounted}

-- what an item made known: names with one type each, a generalised name with its term, or a group of functions
pub data Entry : Type 0 where
  Shared : List (ℕ × ℕ) → Entry
  Copied : (x : ℕ) → Term → Entry
  Grouped : Functions → Entry

-- names with the trees of their types
abbrev pub read_names : (ℕ → Ty) → List (ℕ × ℕ) → Names
read_names f ns = map (λ n. (n.0, f n.1)) ns

-- the same as the rules have it
abbrev pub top_of : (ℕ → Ty) → Entry → Top
top_of f (Shared ns) = OneType (read_names f ns)
top_of f (Copied x a) = GeneralisedTop x a
top_of f (Grouped fs) = Group fs

abbrev pub tops_of : (ℕ → Ty) → List Entry → List Top
tops_of f es = map (top_of f) es

-- the names
abbrev pub entry_names : Entry → List ℕ
entry_names (Shared ns) = map (λ n. n.0) ns
entry_names (Copied x a) = x ∷ []
entry_names (Grouped fs) = function_names fs

abbrev pub all_names : List Entry → List ℕ
all_names [] = []
all_names (e ∷ es) = entry_names e ++ all_names es

-- the types of those that aren't generalised
abbrev pub entry_outers : Entry → List ℕ
entry_outers (Shared ns) = map (λ n. n.1) ns
entry_outers (Copied x a) = []
entry_outers (Grouped fs) = []

abbrev pub all_outers : List Entry → List ℕ
all_outers [] = []
all_outers (e ∷ es) = entry_outers e ++ all_outers es

-- the types that uses of these names may have, by what reads the types
abbrev pub known_uses : Parts → (ℕ → Ty) → List Entry → ℕ → Ty → Type 0
known_uses p f es = uses (program p) (tops_of f es)

abbrev pub known_tops : Parts → (ℕ → Ty) → List Entry → Tops
known_tops p f es = record { uses = known_uses p f es; names = all_names es; outers = all_outers es }

-- the type of a name that is known
abbrev pub number_of : NameType → ℕ
number_of (One v q) = v
number_of (Generalised v) = v

-- a use of a name may have the type that is known of it
abbrev pub UseIs : Parts → (ℕ → Ty) → List Entry → ℕ → Option NameType → Type 0
UseIs p f es x None = ⊥
UseIs p f es x (Some k) = known_uses p f es x (f (number_of k))

-- types that are outer, or given
abbrev pub AreOuter : Inference → List ℕ → Type 0
AreOuter s ms = AllByRecursion (λ m. (m < length s.types.nodes) × IsOuterOr s.types s.types.given m) ms

-- a state between items, behind those that made these names known
pub record Behind (p : Parts) (sc : Scope) (es : List Entry) (s : Inference) : Type 0 where
  pub here : Kept s s
  pub room : HasRoom s.types
  pub on : s.end ≡ None
  pub idle : s.tasks ≡ []
  pub counted : FieldsAreCounted p s
  pub meant : ReadsAreMeant p s
  pub built : (f : ℕ → Ty) → Reads f s.types → Reads f built_in
  pub used : (f : ℕ → Ty) → Reads f s.types → (x : ℕ) → IsTrue (holds (all_names es) x) → UseIs p f es x (known s.names x)
  pub outers : AreOuter s (all_outers es)
  pub scope : (x : ℕ) → holds sc.names x ≡ holds (all_names es) x

-- a later state, where nothing else is known of these names; there the item may be another one
pub record Leaves (p : Parts) (scope : List ℕ) (s e : Inference) : Type 0 where
  pub kept : Kept s e
  pub meant : HasRoom e.types → e.end ≡ None → ReadsAreMeant p s → ReadsAreMeant p e
  pub same : (x : ℕ) → IsTrue (holds scope x) → known e.names x ≡ known s.names x

-- it holds of all of two lists
pub all_of_both :
    {A : Type 0} (P : A → Type 0) (xs ys : List A) → AllByRecursion P xs → AllByRecursion P ys → AllByRecursion P (xs ++ ys)
all_of_both P [] ys h k = k
all_of_both P (x ∷ xs) ys h k = (h.0, all_of_both P xs ys h.1 k)

pub all_of_first : {A : Type 0} (P : A → Type 0) (xs ys : List A) → AllByRecursion P (xs ++ ys) → AllByRecursion P xs
all_of_first P [] ys h = tt
all_of_first P (x ∷ xs) ys h = (h.0, all_of_first P xs ys h.1)

pub all_of_others : {A : Type 0} (P : A → Type 0) (xs ys : List A) → AllByRecursion P (xs ++ ys) → AllByRecursion P ys
all_of_others P [] ys h = h
all_of_others P (x ∷ xs) ys h = all_of_others P xs ys h.1

-- what is outer or given stays so
pub outer_later :
    (s e : Inference) → Kept s e → HasRoom e.types → e.end ≡ None → (ms : List ℕ) → AreOuter s ms → AreOuter e ms
outer_later s e kept room on [] h = tt
outer_later s e kept room on (m ∷ ms) h =
    let low = h.0.0 in let up = kept.types in ((omega arith, kept.outer room on m low h.0.1), outer_later s e kept room on ms h.1)

-- names are read as the same where their types are
same_names :
    (k f : ℕ → Ty) (ns : List (ℕ × ℕ)) → AllByRecursion (λ m. k m ≡ f m) (map (λ n. n.1) ns) → read_names k ns ≡ read_names f ns
same_names k f [] h = refl
same_names k f (n ∷ ns) h =
    ap (λ (t : Ty). (n.0, t) ∷ read_names k ns) h.0 ∙ ap (λ (ms : Names). (n.0, f n.1) ∷ ms) (same_names k f ns h.1)

same_top : (k f : ℕ → Ty) (e : Entry) → AllByRecursion (λ m. k m ≡ f m) (entry_outers e) → top_of k e ≡ top_of f e
same_top k f (Shared ns) h = ap OneType (same_names k f ns h)
same_top k f (Copied x a) h = refl
same_top k f (Grouped fs) h = refl

pub same_tops : (k f : ℕ → Ty) (es : List Entry) → AllByRecursion (λ m. k m ≡ f m) (all_outers es) → tops_of k es ≡ tops_of f es
same_tops k f [] h = refl
same_tops k f (e ∷ es) h =
    let one = same_top k f e (all_of_first (λ m. k m ≡ f m) (entry_outers e) (all_outers es) h) in
    let others = same_tops k f es (all_of_others (λ m. k m ≡ f m) (entry_outers e) (all_outers es) h) in
    ap (λ (t : Top). t ∷ tops_of k es) one ∙ ap (λ (ts : List Top). top_of f e ∷ ts) others

module _ (p : Parts) where
  pub leaves_follows : (scope : List ℕ) (s e : Inference) → Follows p scope s e → Leaves p scope s e
  leaves_follows scope s e a = record { kept = a.kept; meant = a.meant; same = a.same }

  pub leaves_on : (scope : List ℕ) (s m e : Inference) → Leaves p scope s m → Leaves p scope m e → Leaves p scope s e
  leaves_on scope s m e a b = record {
    kept = kept_on s m e a.kept b.kept;
    meant = λ room on meant. b.meant room on (a.meant (room_before m e b.kept room) (b.kept.ended on) meant);
    same = λ x is. b.same x is ∙ a.same x is;
  }

  -- where no more is read, what was read is meant
  pub meant_kept :
      (s e : Inference) → Kept s e → e.read ≡ s.read → HasRoom e.types → e.end ≡ None → ReadsAreMeant p s → ReadsAreMeant p e
  meant_kept s e kept read room on meant f reads n r is =
      meant f (kept.reads room on f reads) n r (sym (ap (λ xs. known xs n) read) ∙ is)

  -- where no names are noted either
  pub leaves_kept : (scope : List ℕ) (s e : Inference) → Kept s e → e.read ≡ s.read → e.names ≡ s.names → Leaves p scope s e
  leaves_kept scope s e kept read names = record {
    kept = kept;
    meant = meant_kept s e kept read;
    same = λ x is. ap (λ xs. known xs x) names;
  }

  module _ (sc : Scope) (es : List Entry) where
    -- what held between items holds later
    pub behind_later :
        (s e : Inference) → Behind p sc es s → Leaves p (all_names es) s e → HasRoom e.types → e.end ≡ None → e.tasks ≡ []
        → Behind p sc es e
    behind_later s e b a room on idle = record {
      here = kept_here s e a.kept;
      room = room;
      on = on;
      idle = idle;
      counted = λ t low. ap (λ ms. count_of ms t) a.kept.counted ∙ b.counted t low;
      meant = a.meant room on b.meant;
      built = λ f reads. b.built f (a.kept.reads room on f reads);
      used =
          λ f reads x is.
          subst (UseIs p f es x) (sym (a.same x is)) (b.used f (a.kept.reads room on f reads) x is);
      outers = outer_later s e a.kept room on (all_outers es) b.outers;
      scope = b.scope;
    }

    top_is :
        (f : ℕ → Ty) (s : Inference) (x : ℕ) (o : Option NameType) → Reads f s.types
        → ((k : ℕ → Ty) → Reads k s.types → UseIs p k es x o) → TopIs f s (known_tops p f es) x o
    top_is f s x None reads h = h f reads
    top_is f s x (Some (One v q)) reads h = h f reads
    top_is f s x (Some (Generalised v)) reads h =
        λ k others same. subst (λ (ts : List Top). uses (program p) ts x (k v)) (same_tops k f es same) (h k others)

    -- a term that stands there stands in this scope
    pub ground_of : (f : ℕ → Ty) (s : Inference) → Behind p sc es s → Reads f s.types → Ground p f (known_tops p f es) s []
    ground_of f s b reads = record {
      here = b.here;
      meant = λ room. b.meant;
      counted = b.counted;
      locals = tt;
      globals = λ x is. top_is f s x (known s.names x) reads (λ k others. b.used k others x is);
      outers = λ room. b.outers;
    }

    pub scope_of_all : (f : ℕ → Ty) (s : Inference) → Behind p sc es s → HasScope sc (known_tops p f es) []
    scope_of_all f s b x = b.scope x

    -- one more name is known
    module _ (x : ℕ) (k : NameType) (en : Entry) (s : Inference) where
      pub behind_noted :
          Behind p sc es s → Kept s (name_noted x k s) → entry_names en ≡ x ∷ []
          → ((f : ℕ → Ty) → Reads f s.types → known_uses p f (en ∷ es) x (f (number_of k)))
          → ((f : ℕ → Ty) (y : ℕ) (t : Ty) → (y == x) ≡ false → known_uses p f es y t → known_uses p f (en ∷ es) y t)
          → AreOuter s (entry_outers en)
          → Behind p (with_names (x ∷ []) sc) (en ∷ es) (name_noted x k s)
      behind_noted b kept names own others outer = record {
        here = kept_here s (name_noted x k s) kept;
        room = b.room;
        on = b.on;
        idle = b.idle;
        counted = b.counted;
        meant = b.meant;
        built = b.built;
        used =
            λ f reads y is.
            ⊎_elim
            (λ h.
            subst (λ z. UseIs p f (en ∷ es) z (known (noted x k s.names) z)) (sym h.1)
            (subst (UseIs p f (en ∷ es) x) (sym (noted_same x k s.names)) (own f reads)))
            (λ h.
            subst (UseIs p f (en ∷ es) y) (sym (noted_other x y k s.names h.1))
            (use_more f y (known s.names y) h.0 (b.used f reads y (held y is h.0))))
            (eqb_tells y x);
        outers =
            all_of_both (λ m. (m < length s.types.nodes) × IsOuterOr s.types s.types.given m) (entry_outers en) (all_outers es)
            outer b.outers;
        scope = λ y. ap (λ c. (y == x) || c) (b.scope y) ∙ ap (λ (xs : List ℕ). holds (xs ++ all_names es) y) (sym names);
      }
        where
          use_more : (f : ℕ → Ty) (y : ℕ) (o : Option NameType) → (y == x) ≡ false → UseIs p f es y o → UseIs p f (en ∷ es) y o
          use_more f y None apart h = h
          use_more f y (Some m) apart h = others f y (f (number_of m)) apart h

          held : (y : ℕ) → IsTrue (holds (all_names (en ∷ es)) y) → (y == x) ≡ false → IsTrue (holds (all_names es) y)
          held y is apart =
              subst (λ c. IsTrue (c || holds (all_names es) y)) apart
              (subst (λ (xs : List ℕ). IsTrue (holds (xs ++ all_names es) y)) names is)
