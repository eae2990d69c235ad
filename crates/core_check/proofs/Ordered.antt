-- The fields of each type go up from 0, where all fields stand in order; what holds of all rows holds of those of a type.
use Rattle.std.proofs.Common.{◌≡◌, refl, ap, ◌∙◌, subst, ℕ, suc, ◌<◌, Bool, true, false, cond, ◌==◌, nat_lt, List, [], ◌∷◌, map, filter, arith}
use Rattle.std.specs.List.{list_all}
use Rattle.effect_meaning.specs.Scoped.{go_up}
use Rattle.effect_meaning.specs.declared.core_tables.FieldRow.{FieldRow}
use Rattle.core_check.specs.Declares.{follows, ordered}
use Rattle.core_check.proofs.Lists.{and_true}
use Rattle.core_check.proofs.Apart.{split}

-- what holds of all holds of those that pass a test, also where it says more of them
pub kept_all : {X : Type 0} (test before after : X → Bool) → ((x : X) → test x ≡ true → before x ≡ true → after x ≡ true)
    → (xs : List X) → list_all before xs ≡ true → list_all after (filter test xs) ≡ true
kept_all test before after more [] h = refl
kept_all test before after more (x ∷ xs) h =
    let R = filter test xs in
    let here : before x ≡ true = grind arith in
    let others : list_all before xs ≡ true = grind arith in
    let rest : list_all after R ≡ true = kept_all test before after more xs others in
    split (test x)
    (λ e. ap (λ b. list_all after (cond b (x ∷ R) R)) e ∙ and_true {a = after x} {b = list_all after R} (more x e here) rest)
    (λ e. ap (λ b. list_all after (cond b (x ∷ R) R)) e ∙ rest)

pub each_all : {X : Type 0} (before after : X → Bool) → ((x : X) → before x ≡ true → after x ≡ true)
    → (xs : List X) → list_all before xs ≡ true → list_all after xs ≡ true
each_all before after more [] h = refl
each_all before after more (x ∷ xs) h =
    let here : before x ≡ true = grind arith in
    let others : list_all before xs ≡ true = grind arith in
    and_true {a = after x} {b = list_all after xs} (more x here) (each_all before after more xs others)

-- the fields of a type, and their places there
abbrev of : ℕ → List FieldRow → List FieldRow
of t rs = filter (λ r. r.of_type == t) rs

abbrev places : List FieldRow → List ℕ
places rs = map (λ r. r.index) rs

-- those of an earlier type are gone
none_earlier : (t u i : ℕ) (rs : List FieldRow) → t < u → ordered u i rs ≡ true → of t rs ≡ []
none_earlier t u i [] less h = refl
none_earlier t u i (r ∷ rs) less h =
    let here : follows u i r ≡ true = grind arith in
    let others : ordered r.of_type (suc r.index) rs ≡ true = grind arith in
    let later : t < r.of_type = grind arith in
    let apart : (r.of_type == t) ≡ false = grind arith in
    ap (λ b. cond b (r ∷ of t rs) (of t rs)) apart ∙ none_earlier t r.of_type (suc r.index) rs later others

-- those of the same type go on
same_go_on : (u i : ℕ) (rs : List FieldRow) → ordered u i rs ≡ true → go_up i (places (of u rs)) ≡ true
same_go_on u i [] h = refl
same_go_on u i (r ∷ rs) h =
    let here : follows u i r ≡ true = grind arith in
    let others : ordered r.of_type (suc r.index) rs ≡ true = grind arith in
    split (r.of_type == u)
    (λ e.
    let is : r.of_type ≡ u = grind arith in
    let at : (r.index == i) ≡ true = grind arith in
    let place : r.index ≡ i = grind arith in
    let rest : go_up (suc i) (places (of u rs)) ≡ true =
    same_go_on u (suc i) rs (subst (λ j. ordered u (suc j) rs ≡ true) place (subst (λ t. ordered t (suc r.index) rs ≡ true) is others)) in
    ap (λ b. go_up i (places (cond b (r ∷ of u rs) (of u rs)))) e
    ∙ and_true {a = r.index == i} {b = go_up (suc i) (places (of u rs))} at rest)
    (λ e.
    let later : u < r.of_type = grind arith in
    ap (λ b. go_up i (places (cond b (r ∷ of u rs) (of u rs)))) e
    ∙ ap (λ l. go_up i (places l)) (none_earlier u r.of_type (suc r.index) rs later others))

-- those of a later type begin with 0
later_begin : (t u i : ℕ) (rs : List FieldRow) → u < t → ordered u i rs ≡ true → go_up 0 (places (of t rs)) ≡ true
later_begin t u i [] less h = refl
later_begin t u i (r ∷ rs) less h =
    let here : follows u i r ≡ true = grind arith in
    let others : ordered r.of_type (suc r.index) rs ≡ true = grind arith in
    split (r.of_type == t)
    (λ e.
    let is : r.of_type ≡ t = grind arith in
    let first : (r.index == 0) ≡ true = grind arith in
    let place : r.index ≡ 0 = grind arith in
    let rest : go_up 1 (places (of t rs)) ≡ true =
    same_go_on t 1 rs (subst (λ j. ordered t (suc j) rs ≡ true) place (subst (λ v. ordered v (suc r.index) rs ≡ true) is others)) in
    ap (λ b. go_up 0 (places (cond b (r ∷ of t rs) (of t rs)))) e
    ∙ and_true {a = r.index == 0} {b = go_up 1 (places (of t rs))} first rest)
    (λ e.
    ap (λ b. go_up 0 (places (cond b (r ∷ of t rs) (of t rs)))) e
    ∙ split (nat_lt r.of_type t)
    (λ l. let before : r.of_type < t = grind arith in later_begin t r.of_type (suc r.index) rs before others)
    (λ l.
    let behind : t < r.of_type = grind arith in
    ap (λ m. go_up 0 (places m)) (none_earlier t r.of_type (suc r.index) rs behind others)))

-- the fields of each type go up from 0
pub places_go_up : (t : ℕ) (rs : List FieldRow) → ordered 0 0 rs ≡ true → go_up 0 (places (of t rs)) ≡ true
places_go_up t rs h =
    split (t == 0)
    (λ e. let is : 0 ≡ t = grind arith in subst (λ v. go_up 0 (places (of v rs)) ≡ true) is (same_go_on 0 0 rs h))
    (λ e. let more : 0 < t = grind arith in later_begin t 0 0 rs more h)
