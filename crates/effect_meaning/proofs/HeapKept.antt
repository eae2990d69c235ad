-- What a step does to the heap: it appends blocks, empties a full continuation, or stores into a block of data. So a relation
-- between heaps that these three keep holds between the heaps of any two configurations of a run, the earlier first.
use Rattle.std.proofs.Common.{append-nil, ◌≡◌, refl, sym, subst, ℕ, ◌+◌, ℤ, pos, negsuc, List, [], ◌∷◌, ◌++◌, Option, Some, None, Bool, true, false, length, set, if◌then◌else◌, nat_lt, nat_eq, nat_abs, slice_get, append_assoc, ◌&&◌}
use Rattle.effect_meaning.specs.Terms.{AndClause, AndEffect, Annot, App, Array, ArrayGet, ArrayLength, ArrayMake, ArraySet, AtomicAdd, AtomicCas, AtomicDecr, AtomicExchange, AtomicGet, AtomicIncr, AtomicMake, AtomicSet, CFold, CIter, CTry, Catch, CharChr, CharCode, Clauses, Compare, Con, ConOf, Concat, Const, Constructor, Continue, Deep, Define, DefineRec, Destructure, Discontinue, Effect, EffectClauses, Evaluate, Exception, Exit, Failwith, Fiber, Field, Fst, Fun, Functions, Handle, If, Ignore, InvalidArg, Item, Join, Kind, Let, LetRec, Match, NoClauses, NoEffects, NoGuard, Not, Operation, Other, Pattern, Perform, Place, Prim, PrintChar, PrintEndline, PrintInt, PrintNewline, PrintString, Program, QueuePush, QueueSelf, QueueSlots, QueueTake, Raise, Record, RefDecr, RefGet, RefIncr, RefMake, RefSet, Relax, Same, Seq, SetField, ShallowContinue, ShallowDiscontinue, Snd, Spawn, StringGet, StringLength, StringOfInt, StringSub, Term, Terms, Tuple, Var, Variant, When}
use Rattle.effect_meaning.specs.Builtins.{match_failure}
use Rattle.effect_meaning.specs.Numbers.{divides, on_number, on_numbers}
use Rattle.effect_meaning.specs.Config.{AppliesTo, Applying, Arraying, At, Bare, Block, Branch, Catching, Closure, Config, Constructing, Continuation, Cut, Data, Defines, Destructures, Doing, Domain, DomainOf, Done, End, Eval, Evaluates, Fielding, Folds, Foot, ForClause, ForEffect, ForItem, Frame, Gave, GivesTo, Goal, Guarding, Handler, Handling, Heap, Items, Iterates, Keep, LetIn, Live, Look, LookIn, Matching, Names, NoMatch, Num, Operating, Otherwise, Parts, RaiseAgain, Raised, Raising, Recording, Return, Root, Running, Scope, Searching, Segment, Setting, Shape, Stores, Testing, Then, Todo, Tries, Tupling, Value}
use Rattle.effect_meaning.specs.StaticTexts.{file_text}
use Rattle.effect_meaning.specs.Focus.{Focus, applies, block_at, carrier, enters, given, given_or, gives, lookup, number_of, opened, push, text_at, unit, values_at, values_of, with_context}
use Rattle.effect_meaning.specs.Cells.{array_get, array_make_of, array_set, bumps, cell_of, exchanges, index_of, index_within, plus, reads_cell, reads_field, stored, stored_in, writes_field}
use Rattle.effect_meaning.specs.Texts.{char_chr, compares, part_of, string_get, string_sub}
use Rattle.effect_meaning.specs.Effects.{captured, effect_carried, handles, passes, resumes, resumes_block, scope_at, searches}
use Rattle.effect_meaning.specs.Matching.{fails, fails_to_match, look_at, matched, same_value, tests, tests_node, tries, unmatched}
use Rattle.effect_meaning.specs.Callbacks.{attempts, folds, iterates}
use Rattle.effect_meaning.specs.Domains.{joins_block, joins_domain, lowest_free, own_slot, pushes_onto, spawns_in, takes_from, takes_of}
use Rattle.effect_meaning.specs.Operations.{calculates, compares_and_sets, does, does_one, does_three, does_two, part}
use Rattle.effect_meaning.specs.Evaluation.{begins, builds, constructs, evaluates, group_blocks, group_names, meets, next_item, one, parts, terms_onto, two}
use Rattle.effect_meaning.specs.Step.{acts, drops, drops_out, raises_at, returns, returns_at, returns_in, step, step_of, while_running}
use Rattle.effect_meaning.specs.Run.{runs}
use Rattle.effect_meaning.specs.Measures.{begun}

module _ (R : Heap → Heap → Type 0)
    (same : (h : Heap) → R h h)
    (andthen : (h i j : Heap) → R h i → R i j → R h j)
    (appended : (h : Heap) (b : Block) → R h (h ++ b ∷ []))
    (emptied : (h : Heap) (l : ℕ) (ss : List Segment) → slice_get h l ≡ Some (Continuation (Some ss)) → R h (set h l (Continuation None)))
    (changed : (h : Heap) (l tag : ℕ) (vs ws : List Value) → slice_get h l ≡ Some (Data tag vs) → R h (set h l (Data tag ws)))
  where
    -- what a step gives, if it gives anything, has a heap that came from this one
    abbrev pub Kept : Heap → Option Config → Type 0
    Kept h None = Unit {0}
    Kept h (Some c) = R h c.heap

    two_appended : (h : Heap) (a b : Block) → R h ((h ++ a ∷ []) ++ b ∷ [])
    two_appended h a b = andthen h (h ++ a ∷ []) ((h ++ a ∷ []) ++ b ∷ []) (appended h a) (appended (h ++ a ∷ []) b)

    all_appended : (h : Heap) (bs : List Block) → R h (h ++ bs)
    all_appended h [] = subst (λ i. R h i) (sym (append-nil h)) (same h)
    all_appended h (b ∷ bs) = andthen h (h ++ b ∷ []) (h ++ b ∷ bs) (appended h b) (subst (λ i. R (h ++ b ∷ []) i) (append_assoc h (b ∷ []) bs) (all_appended (h ++ b ∷ []) bs))

    kept_given : {A : Type 0} (h : Heap) (o : Option A) (k : A → Option Config) → ((a : A) → Kept h (k a)) → Kept h (given o k)
    kept_given h None k e = tt
    kept_given h (Some a) k e = e a

    kept_given_or : {A : Type 0} (h : Heap) (o : Option A) (k : A → Option Config) (other : Option Config) → ((a : A) → Kept h (k a)) → Kept h other → Kept h (given_or o k other)
    kept_given_or h None k other e e' = e'
    kept_given_or h (Some a) k other e e' = e a

    given_or_kept : {A : Type 0} (h : Heap) (o : Option A) (k : A → Config) (other : Config) → ((a : A) → R h (k a).heap) → R h other.heap → R h (given_or o k other).heap
    given_or_kept h None k other e e' = e'
    given_or_kept h (Some a) k other e e' = e a

    if_kept : (h : Heap) (b : Bool) (x y : Config) → R h x.heap → R h y.heap → R h (if b then x else y).heap
    if_kept h true x y e e' = e
    if_kept h false x y e e' = e'

    kept_if : (h : Heap) (b : Bool) (x y : Option Config) → Kept h x → Kept h y → Kept h (if b then x else y)
    kept_if h true x y e e' = e
    kept_if h false x y e e' = e'

    enters_kept : (f : Focus) (v : Value) (b : Option Block) → Kept f.config.heap (enters f v b)
    enters_kept f v (Some (Closure x body names)) = same f.config.heap
    enters_kept f v _ = tt

    applies_kept : (f : Focus) (g v : Value) → Kept f.config.heap (applies f g v)
    applies_kept f g v = enters_kept f v (block_at f.config.heap g)

    -- matching

    fails_to_match_kept : (f : Focus) (at : Place) → R f.config.heap (fails_to_match f at).heap
    fails_to_match_kept f at = two_appended f.config.heap (Data 0 (file_text ∷ Num (pos at.line) ∷ Num (pos at.column) ∷ [])) (carrier match_failure (At (length f.config.heap)))

    tries_kept : (f : Focus) (v : Value) (cs : Clauses) (o : Otherwise) (s : Scope) → R f.config.heap (tries f v cs o s).heap
    tries_kept f v (AndClause pat g body rest) o s = same f.config.heap
    tries_kept f v NoClauses RaiseAgain s = same f.config.heap
    tries_kept f v NoClauses (NoMatch at) s = fails_to_match_kept f at

    matched_kept : (f : Focus) (names : Names) (goal : Goal) → Kept f.config.heap (matched f names goal)
    matched_kept f names (ForClause NoGuard body v rest otherwise s) = same f.config.heap
    matched_kept f names (ForClause (When g) body v rest otherwise s) = same f.config.heap
    matched_kept f names (ForItem at rest s) = same f.config.heap
    matched_kept f names (ForEffect e n argument k body rest) = appended f.config.heap (Continuation (Some (captured n f.context)))

    unmatched_kept : (f : Focus) (goal : Goal) → R f.config.heap (unmatched f goal).heap
    unmatched_kept f (ForClause guard body v rest otherwise s) = tries_kept f v rest otherwise s
    unmatched_kept f (ForItem at rest s) = fails_to_match_kept f at
    unmatched_kept f (ForEffect e n argument k body rest) = same f.config.heap

    fails_kept : (f : Focus) (others : List (List Todo × Names)) (goal : Goal) → R f.config.heap (fails f others goal).heap
    fails_kept f [] goal = unmatched_kept f goal
    fails_kept f (o ∷ others) goal = same f.config.heap

    node_kept : (f : Focus) (q : Pattern) (v : Value) (todo : List Todo) (others : List (List Todo × Names)) (names : Names) (goal : Goal) → R f.config.heap (tests_node f q v todo others names goal).heap
    node_kept f q v todo others names goal =
        given_or_kept f.config.heap (look_at f q v todo names) _ _ (λ t. same f.config.heap) (fails_kept f others goal)

    tests_kept : (f : Focus) (todo : List Todo) (others : List (List Todo × Names)) (names : Names) (goal : Goal) → Kept f.config.heap (tests f todo others names goal)
    tests_kept f [] others names goal = matched_kept f names goal
    tests_kept f (Keep ∷ todo) others names goal = same f.config.heap
    tests_kept f (Look q v ∷ todo) others names goal = node_kept f q v todo others names goal
    tests_kept f (LookIn q l i ∷ todo) others names goal =
        kept_given f.config.heap (values_of (slice_get f.config.heap l)) _ (λ vs. kept_given f.config.heap (slice_get vs i) _ (λ v. node_kept f q v todo others names goal))

    -- effects

    passes_kept : (f : Focus) (e : Value) (n : ℕ) (ft : Foot) → Kept f.config.heap (passes f e n ft)
    passes_kept f e n Root = appended f.config.heap _
    passes_kept f e n Cut = appended f.config.heap _
    passes_kept f e n Bare = tt
    passes_kept f e n (Handler kind retc exnc cs s) = same f.config.heap

    searches_kept : (f : Focus) (e : Value) (n : ℕ) (cs : EffectClauses) → Kept f.config.heap (searches f e n cs)
    searches_kept f e n NoEffects = kept_given f.config.heap (slice_get f.context n) _ (λ s. passes_kept f e n s.foot)
    searches_kept f e n (AndEffect effect argument k t body rest) =
        kept_given f.config.heap (scope_at f.context n) _ (λ sc.
        given_or_kept f.config.heap (effect_carried effect (block_at f.config.heap e)) _ _ (λ vs. same f.config.heap) (same f.config.heap))

    resumes_block_kept : (f : Focus) (k : Value) (b : Option Block) (change : List Segment → List Segment) (next : Doing) → block_at f.config.heap k ≡ b → Kept f.config.heap (resumes_block f k b change next)
    resumes_block_kept f (At l) (Some (Continuation (Some ss))) change next e = emptied f.config.heap l ss e
    resumes_block_kept f (At l) (Some (Continuation None)) change next e = appended f.config.heap _
    resumes_block_kept f _ _ change next e = tt

    resumes_kept : (f : Focus) (k : Value) (change : List Segment → List Segment) (next : Doing) → Kept f.config.heap (resumes f k change next)
    resumes_kept f k change next = resumes_block_kept f k (block_at f.config.heap k) change next refl

    handles_kept : (f : Focus) (kind : Kind) (cs : EffectClauses) (s : Scope) (vs : List Value) → Kept f.config.heap (handles f kind cs s vs)
    handles_kept f Deep cs s (g ∷ x ∷ retc ∷ exnc ∷ []) = applies_kept (opened f [] (Handler Deep retc exnc cs s)) g x
    handles_kept f ShallowContinue cs s (k ∷ v ∷ retc ∷ exnc ∷ []) = resumes_kept f k _ _
    handles_kept f ShallowDiscontinue cs s (k ∷ v ∷ retc ∷ exnc ∷ []) = resumes_kept f k _ _
    handles_kept f _ cs s _ = tt

    -- cells, fields and arrays

    stored_in_kept : (h : Heap) (l i : ℕ) (v : Value) (b : Option Block) → slice_get h l ≡ b → R h (stored_in h l i v b)
    stored_in_kept h l i v (Some (Data tag vs)) e = changed h l tag vs (set vs i v) e
    stored_in_kept h l i v _ e = same h

    stored_kept : (h : Heap) (l i : ℕ) (v : Value) → R h (stored h l i v)
    stored_kept h l i v = stored_in_kept h l i v (slice_get h l) refl

    exchanges_kept : (f : Focus) (c : Value) (new : Value → Option Value) (answer : Value → Value) → Kept f.config.heap (exchanges f c new answer)
    exchanges_kept f c new answer =
        kept_given f.config.heap (cell_of f.config.heap c) _ (λ lv. kept_given f.config.heap (new lv.1) _ (λ w. stored_kept f.config.heap lv.0 0 w))

    bumps_kept : (f : Focus) (c : Value) (d : ℤ) → Kept f.config.heap (bumps f c d)
    bumps_kept f c d =
        kept_given f.config.heap (cell_of f.config.heap c) _ (λ lv. kept_given f.config.heap (plus d lv.1) _ (λ w. same f.config.heap))

    reads_cell_kept : (f : Focus) (c : Value) → Kept f.config.heap (reads_cell f c)
    reads_cell_kept f c = kept_given f.config.heap (cell_of f.config.heap c) _ (λ lv. same f.config.heap)

    reads_field_kept : (f : Focus) (field : ℕ) (v : Value) → Kept f.config.heap (reads_field f field v)
    reads_field_kept f field v =
        kept_given f.config.heap (values_at f v) _ (λ vs. kept_given f.config.heap (index_of f field) _ (λ i. kept_given f.config.heap (slice_get vs i) _ (λ w. same f.config.heap)))

    writes_field_kept : (f : Focus) (field : ℕ) (v w : Value) → Kept f.config.heap (writes_field f field v w)
    writes_field_kept f field (At l) w =
        kept_given f.config.heap (values_at f (At l)) _ (λ vs. kept_given f.config.heap (index_of f field) _ (λ i. stored_kept f.config.heap l i w))
    writes_field_kept f field (Num n) w = tt

    array_get_kept : (f : Focus) (a i : Value) → Kept f.config.heap (array_get f a i)
    array_get_kept f a i =
        kept_given f.config.heap (values_at f a) _ (λ vs. kept_given f.config.heap (number_of i) _ (λ n.
        kept_given_or f.config.heap (given (index_within n (length vs)) (slice_get vs)) _ _ (λ c. same f.config.heap) (appended f.config.heap _)))

    array_set_kept : (f : Focus) (a i v : Value) → Kept f.config.heap (array_set f a i v)
    array_set_kept f (At l) i v =
        kept_given f.config.heap (values_at f (At l)) _ (λ vs. kept_given f.config.heap (number_of i) _ (λ n.
        kept_given_or f.config.heap (index_within n (length vs)) _ _ (λ k. stored_kept f.config.heap l k v) (appended f.config.heap _)))
    array_set_kept f (Num m) i v = tt

    array_make_of_kept : (f : Focus) (n : ℤ) (v : Value) → R f.config.heap (array_make_of f n v).heap
    array_make_of_kept f (pos n) v = appended f.config.heap _
    array_make_of_kept f (negsuc n) v = appended f.config.heap _

    -- strings

    on_text : (f : Focus) (v : Value) (k : List ℕ → Option Config) → ((t : List ℕ) → Kept f.config.heap (k t)) → Kept f.config.heap (given (text_at f v) k)
    on_text f v k e = kept_given f.config.heap (text_at f v) k e

    on_number_of : (f : Focus) (v : Value) (k : ℤ → Option Config) → ((n : ℤ) → Kept f.config.heap (k n)) → Kept f.config.heap (given (number_of v) k)
    on_number_of f v k e = kept_given f.config.heap (number_of v) k e

    string_get_kept : (f : Focus) (v i : Value) → Kept f.config.heap (string_get f v i)
    string_get_kept f v i =
        on_text f v _ (λ t. on_number_of f i _ (λ n.
        kept_given_or f.config.heap (given (index_within n (length t)) (slice_get t)) _ _ (λ c. same f.config.heap) (appended f.config.heap _)))

    string_sub_kept : (f : Focus) (v i k : Value) → Kept f.config.heap (string_sub f v i k)
    string_sub_kept f v i k =
        on_text f v _ (λ t. on_number_of f i _ (λ n. on_number_of f k _ (λ m.
        given_or_kept f.config.heap (part_of t n m) _ _ (λ r. appended f.config.heap _) (appended f.config.heap _))))

    char_chr_kept : (f : Focus) (v : Value) → Kept f.config.heap (char_chr f v)
    char_chr_kept f v =
        on_number_of f v _ (λ n. kept_given_or f.config.heap (index_within n 256) _ _ (λ c. same f.config.heap) (appended f.config.heap _))

    -- domains and queues

    spawns_in_kept : (f : Focus) (g : Value) (slot : Option ℕ) → R f.config.heap (spawns_in f g slot).heap
    spawns_in_kept f g None = appended f.config.heap _
    spawns_in_kept f g (Some slot) = appended f.config.heap _

    joins_domain_kept : (f : Focus) (d : Option Domain) → Kept f.config.heap (joins_domain f d)
    joins_domain_kept f (Some (Done (Gave v))) = same f.config.heap
    joins_domain_kept f (Some (Done (Raised e))) = same f.config.heap
    joins_domain_kept f _ = tt

    joins_block_kept : (f : Focus) (b : Option Block) → Kept f.config.heap (joins_block f b)
    joins_block_kept f (Some (DomainOf d)) = joins_domain_kept f (slice_get f.config.domains d)
    joins_block_kept f _ = tt

    pushes_onto_kept : (f : Focus) (k : Value) (i : ℕ) (q : Option (List Value)) → Kept f.config.heap (pushes_onto f k i q)
    pushes_onto_kept f k i None = tt
    pushes_onto_kept f k i (Some q) = kept_if f.config.heap (nat_lt (length q) 1024) _ _ (same f.config.heap) (appended f.config.heap _)

    takes_of_kept : (f : Focus) (i : ℕ) (q : Option (List Value)) → Kept f.config.heap (takes_of f i q)
    takes_of_kept f i (Some (k ∷ q)) = appended f.config.heap _
    takes_of_kept f i (Some []) = same f.config.heap
    takes_of_kept f i None = appended f.config.heap _

    takes_from_kept : (f : Focus) (n : ℤ) → Kept f.config.heap (takes_from f n)
    takes_from_kept f (pos i) = takes_of_kept f i (slice_get f.config.queues i)
    takes_from_kept f (negsuc i) = appended f.config.heap _

    -- operations

    calculates_kept : (f : Focus) (op : Operation) (a b : ℤ) → Kept f.config.heap (calculates f op a b)
    calculates_kept f op a b =
        kept_if f.config.heap (divides op && nat_eq (nat_abs b) 0) _ _ (appended f.config.heap _) (kept_given f.config.heap (on_numbers op a b) _ (λ n. same f.config.heap))

    compares_and_sets_kept : (f : Focus) (c old new : Value) → Kept f.config.heap (compares_and_sets f c old new)
    compares_and_sets_kept f c old new =
        kept_given f.config.heap (cell_of f.config.heap c) _ (λ lv. kept_if f.config.heap (same_value lv.1 old) _ _ (stored_kept f.config.heap lv.0 0 new) (same f.config.heap))

    part_kept : (f : Focus) (v : Value) (i : ℕ) → Kept f.config.heap (part f v i)
    part_kept f v i = kept_given f.config.heap (values_at f v) _ (λ vs. kept_given f.config.heap (slice_get vs i) _ (λ w. same f.config.heap))

    on_one : (f : Focus) (v : Value) (g : ℤ → Option ℤ) → Kept f.config.heap (given (number_of v) (λ n. given (g n) (λ m. gives f (Num m))))
    on_one f v g = on_number_of f v _ (λ n. kept_given f.config.heap (g n) _ (λ m. same f.config.heap))

    does_one_kept : (f : Focus) (op : Operation) (v : Value) → Kept f.config.heap (does_one f op v)
    does_one_kept f Not v = on_number_of f v _ (λ n. same f.config.heap)
    does_one_kept f Fst v = part_kept f v 0
    does_one_kept f Snd v = part_kept f v 1
    does_one_kept f Ignore v = same f.config.heap
    does_one_kept f RefMake v = appended f.config.heap _
    does_one_kept f AtomicMake v = appended f.config.heap _
    does_one_kept f RefGet v = reads_cell_kept f v
    does_one_kept f AtomicGet v = reads_cell_kept f v
    does_one_kept f RefIncr v = bumps_kept f v (pos 1)
    does_one_kept f RefDecr v = bumps_kept f v (negsuc 0)
    does_one_kept f AtomicIncr v = exchanges_kept f v (plus (pos 1)) (λ _. unit)
    does_one_kept f AtomicDecr v = exchanges_kept f v (plus (negsuc 0)) (λ _. unit)
    does_one_kept f Raise v = same f.config.heap
    does_one_kept f Failwith v = appended f.config.heap _
    does_one_kept f InvalidArg v = appended f.config.heap _
    does_one_kept f Exit v = on_number_of f v _ (λ n. same f.config.heap)
    does_one_kept f PrintInt v = on_number_of f v _ (λ n. same f.config.heap)
    does_one_kept f PrintChar v = on_number_of f v _ (λ n. same f.config.heap)
    does_one_kept f PrintString v = on_text f v _ (λ n. same f.config.heap)
    does_one_kept f PrintEndline v = on_text f v _ (λ n. same f.config.heap)
    does_one_kept f PrintNewline v = same f.config.heap
    does_one_kept f StringOfInt v = on_number_of f v _ (λ n. appended f.config.heap _)
    does_one_kept f StringLength v = on_text f v _ (λ n. same f.config.heap)
    does_one_kept f CharCode v = same f.config.heap
    does_one_kept f CharChr v = char_chr_kept f v
    does_one_kept f ArrayLength v = kept_given f.config.heap (values_at f v) _ (λ n. same f.config.heap)
    does_one_kept f CTry v = same f.config.heap
    does_one_kept f Perform v = same f.config.heap
    does_one_kept f Fiber v = appended f.config.heap _
    does_one_kept f Spawn v = spawns_in_kept f v (lowest_free f.config.slots 0)
    does_one_kept f Join v = joins_block_kept f (block_at f.config.heap v)
    does_one_kept f Relax v = same f.config.heap
    does_one_kept f QueuePush v = pushes_onto_kept f v (own_slot f) (slice_get f.config.queues (own_slot f))
    does_one_kept f QueueTake v = on_number_of f v _ (λ n. takes_from_kept f n)
    does_one_kept f QueueSelf v = same f.config.heap
    does_one_kept f QueueSlots v = same f.config.heap
    does_one_kept f op v = on_one f v (on_number op)

    does_two_kept : (f : Focus) (op : Operation) (v w : Value) → Kept f.config.heap (does_two f op v w)
    does_two_kept f (Compare o) v w = kept_given f.config.heap (compares f.config.heap o v w) _ (λ n. same f.config.heap)
    does_two_kept f Same v w = same f.config.heap
    does_two_kept f Other v w = same f.config.heap
    does_two_kept f RefSet v w = exchanges_kept f v (λ _. Some w) (λ _. unit)
    does_two_kept f AtomicSet v w = exchanges_kept f v (λ _. Some w) (λ _. unit)
    does_two_kept f AtomicExchange v w = exchanges_kept f v (λ _. Some w) (λ old. old)
    does_two_kept f AtomicAdd v w = on_number_of f w _ (λ n. exchanges_kept f v (plus n) (λ old. old))
    does_two_kept f Concat v w = on_text f v _ (λ s. on_text f w _ (λ t. appended f.config.heap _))
    does_two_kept f StringGet v w = string_get_kept f v w
    does_two_kept f ArrayGet v w = array_get_kept f v w
    does_two_kept f ArrayMake v w = on_number_of f v _ (λ n. array_make_of_kept f n w)
    does_two_kept f CIter v w = same f.config.heap
    does_two_kept f Continue v w = resumes_kept f v (λ ss. ss) (Return w)
    does_two_kept f Discontinue v w = resumes_kept f v (λ ss. ss) (Raising w)
    does_two_kept f op v w = on_number_of f v _ (λ a. on_number_of f w _ (λ b. calculates_kept f op a b))

    does_three_kept : (f : Focus) (op : Operation) (v w x : Value) → Kept f.config.heap (does_three f op v w x)
    does_three_kept f ArraySet v w x = array_set_kept f v w x
    does_three_kept f StringSub v w x = string_sub_kept f v w x
    does_three_kept f AtomicCas v w x = compares_and_sets_kept f v w x
    does_three_kept f CFold v w x = same f.config.heap
    does_three_kept f op v w x = tt

    does_kept : (f : Focus) (op : Operation) (vs : List Value) → Kept f.config.heap (does f op vs)
    does_kept f op (v ∷ []) = does_one_kept f op v
    does_kept f op (v ∷ w ∷ []) = does_two_kept f op v w
    does_kept f op (v ∷ w ∷ x ∷ []) = does_three_kept f op v w x
    does_kept f op _ = tt

    -- terms and items

    constructs_kept : (f : Focus) (con : Constructor) (vs : List Value) → Kept f.config.heap (constructs f con vs)
    constructs_kept f (Variant n) [] = same f.config.heap
    constructs_kept f (Variant n) (v ∷ vs) = appended f.config.heap _
    constructs_kept f (Exception n) vs = appended f.config.heap _
    constructs_kept f (Effect n) vs = appended f.config.heap _

    builds_kept : (f : Focus) (shape : Shape) (vs : List Value) (s : Scope) → Kept f.config.heap (builds f shape vs s)
    builds_kept f Applying (g ∷ v ∷ []) s = applies_kept f g v
    builds_kept f Tupling vs s = appended f.config.heap _
    builds_kept f Arraying vs s = appended f.config.heap _
    builds_kept f (Constructing con) vs s = constructs_kept f con vs
    builds_kept f (Recording fields) vs s = appended f.config.heap _
    builds_kept f (Fielding field) (v ∷ []) s = reads_field_kept f field v
    builds_kept f (Setting field) (v ∷ w ∷ []) s = writes_field_kept f field v w
    builds_kept f (Operating op) vs s = does_kept f op vs
    builds_kept f (Handling kind clauses) vs s = handles_kept f kind clauses s vs
    builds_kept f _ vs s = tt

    parts_kept : (f : Focus) (shape : Shape) (left : List Term) (done : List Value) (s : Scope) → Kept f.config.heap (parts f shape left done s)
    parts_kept f shape [] done s = builds_kept f shape done s
    parts_kept f shape (a ∷ left) done s = same f.config.heap

    begins_kept : (f : Focus) (shape : Shape) (ts : Terms) (s : Scope) → Kept f.config.heap (begins f shape ts s)
    begins_kept f shape ts s = parts_kept f shape (terms_onto [] ts) [] s

    group_kept : (f : Focus) (group : Functions) (names : Names) → R f.config.heap (f.config.heap ++ group_blocks group (group_names group (length f.config.heap) names))
    group_kept f group names = all_appended f.config.heap (group_blocks group (group_names group (length f.config.heap) names))

    evaluates_kept : (f : Focus) (a : Term) (s : Scope) → Kept f.config.heap (evaluates f a s)
    evaluates_kept f (Var x) s = kept_given f.config.heap (lookup x s.names) _ (λ v. same f.config.heap)
    evaluates_kept f (Const c) s = same f.config.heap
    evaluates_kept f (Fun x body) s = appended f.config.heap _
    evaluates_kept f (App g a) s = begins_kept f Applying (two g a) s
    evaluates_kept f (Let x a b) s = same f.config.heap
    evaluates_kept f (LetRec group b) s = group_kept f group s.names
    evaluates_kept f (Seq a b) s = same f.config.heap
    evaluates_kept f (If c a b) s = same f.config.heap
    evaluates_kept f (Match at a cs) s = same f.config.heap
    evaluates_kept f (Tuple ts) s = begins_kept f Tupling ts s
    evaluates_kept f (Con con) s = constructs_kept f con []
    evaluates_kept f (ConOf con a) s = begins_kept f (Constructing con) (one a) s
    evaluates_kept f (Record fields ts) s = begins_kept f (Recording fields) ts s
    evaluates_kept f (Array ts) s = begins_kept f Arraying ts s
    evaluates_kept f (Field field a) s = begins_kept f (Fielding field) (one a) s
    evaluates_kept f (SetField field a b) s = begins_kept f (Setting field) (two a b) s
    evaluates_kept f (Prim op ts) s = begins_kept f (Operating op) ts s
    evaluates_kept f (Catch at a values exceptions) s = same f.config.heap
    evaluates_kept f (Handle kind types ts clauses) s = begins_kept f (Handling kind clauses) ts s
    evaluates_kept f (Annot a t) s = same f.config.heap

    next_item_kept : (f : Focus) (is : List Item) (names : Names) → R f.config.heap (next_item f is names).heap
    next_item_kept f [] names = same f.config.heap
    next_item_kept f (Define x a ∷ rest) names = same f.config.heap
    next_item_kept f (Destructure at pat a ∷ rest) names = same f.config.heap
    next_item_kept f (Evaluate a ∷ rest) names = same f.config.heap
    next_item_kept f (DefineRec group ∷ rest) names = group_kept f group names

    -- callbacks

    iterates_kept : (f : Focus) (g a : Value) (i : ℕ) → Kept f.config.heap (iterates f g a i)
    iterates_kept f g a i =
        kept_given f.config.heap (values_at f a) _ (λ vs. kept_given_or f.config.heap (slice_get vs i) _ _ (λ x. applies_kept (opened (push f (Iterates g a (i + 1))) [] Cut) g x) (same f.config.heap))

    folds_kept : (f : Focus) (v g a : Value) (i : ℕ) → Kept f.config.heap (folds f v g a i)
    folds_kept f v g a i =
        kept_given f.config.heap (values_at f a) _ (λ vs. kept_given_or f.config.heap (slice_get vs i) _ _ (λ x. applies_kept (opened (push f (Folds g a (i + 1))) (AppliesTo x ∷ []) Cut) g v) (same f.config.heap))

    attempts_kept : (f : Focus) (v g : Value) (begun : Bool) → Kept f.config.heap (attempts f v g begun)
    attempts_kept f v g false = applies_kept (opened (push f (Tries g true)) [] Cut) g unit
    attempts_kept f v g true = appended f.config.heap _

    -- a value meets a frame

    meets_kept : (f : Focus) (v : Value) (k : Frame) → Kept f.config.heap (meets f v k)
    meets_kept f v (Parts shape left done s) = parts_kept f shape left (v ∷ done) s
    meets_kept f v (LetIn x b s) = same f.config.heap
    meets_kept f v (Then b s) = same f.config.heap
    meets_kept f v (Branch a b s) = on_number_of f v _ (λ n. same f.config.heap)
    meets_kept f v (Matching at cs s) = tries_kept f v cs (NoMatch at) s
    meets_kept f v (Catching at values exceptions s) = tries_kept f v values (NoMatch at) s
    meets_kept f v (Guarding body inner subject rest otherwise s) =
        on_number_of f v _ (λ n. if_kept f.config.heap (nat_eq (nat_abs n) 0) _ _ (tries_kept f subject rest otherwise s) (same f.config.heap))
    meets_kept f v (Items left names) = next_item_kept f left names
    meets_kept f v (Defines x rest s) = same f.config.heap
    meets_kept f v (Destructures at pat rest s) = same f.config.heap
    meets_kept f v (Evaluates rest s) = same f.config.heap
    meets_kept f v (GivesTo g) = applies_kept f g v
    meets_kept f v (AppliesTo x) = applies_kept f v x
    meets_kept f v (Stores l) = stored_kept f.config.heap l 0 v
    meets_kept f v (Iterates g a i) = iterates_kept f g a i
    meets_kept f v (Folds g a i) = folds_kept f v g a i
    meets_kept f v (Tries g begun) = attempts_kept f v g begun

    returns_at_kept : (f : Focus) (v : Value) (ft : Foot) → Kept f.config.heap (returns_at f v ft)
    returns_at_kept f v Root = same f.config.heap
    returns_at_kept f v Cut = same f.config.heap
    returns_at_kept f v Bare = tt
    returns_at_kept f v (Handler kind retc exnc cs s) = applies_kept f retc v

    returns_in_kept : (f : Focus) (v : Value) (frames : List Frame) (s : Segment) (ss : List Segment) → Kept f.config.heap (returns_in f v frames s ss)
    returns_in_kept f v [] s ss = returns_at_kept (with_context f ss) v s.foot
    returns_in_kept f v (k ∷ frames) s ss = meets_kept (with_context f (record s { frames = frames } ∷ ss)) v k

    returns_kept : (f : Focus) (v : Value) (ss : List Segment) → Kept f.config.heap (returns f v ss)
    returns_kept f v [] = tt
    returns_kept f v (s ∷ ss) = returns_in_kept f v s.frames s ss

    -- an exception meets a frame or a foot

    raises_at_kept : (f : Focus) (e : Value) (ft : Foot) → Kept f.config.heap (raises_at f e ft)
    raises_at_kept f e Root = same f.config.heap
    raises_at_kept f e Cut = same f.config.heap
    raises_at_kept f e Bare = tt
    raises_at_kept f e (Handler kind retc exnc cs s) = applies_kept f exnc e

    drops_kept : (f : Focus) (e : Value) (frames : List Frame) (s : Segment) (ss : List Segment) → Kept f.config.heap (drops f e frames s ss)
    drops_kept f e [] s ss = raises_at_kept (with_context f ss) e s.foot
    drops_kept f e (Catching at values exceptions sc ∷ frames) s ss = tries_kept (with_context f (record s { frames = frames } ∷ ss)) e exceptions RaiseAgain sc
    drops_kept f e (Tries g begun ∷ frames) s ss = same f.config.heap
    drops_kept f e (k ∷ frames) s ss = drops_kept f e frames s ss

    drops_out_kept : (f : Focus) (e : Value) (ss : List Segment) → Kept f.config.heap (drops_out f e ss)
    drops_out_kept f e [] = tt
    drops_out_kept f e (s ∷ ss) = drops_kept f e s.frames s ss

    -- a step and a run

    acts_kept : (f : Focus) (doing : Doing) → Kept f.config.heap (acts f doing)
    acts_kept f (Eval a s) = evaluates_kept f a s
    acts_kept f (Return v) = returns_kept f v f.context
    acts_kept f (Raising e) = drops_out_kept f e f.context
    acts_kept f (Testing todo others names goal) = tests_kept f todo others names goal
    acts_kept f (Searching e n cs) = searches_kept f e n cs

    step_of_kept : (p : Program) (c : Config) (d : ℕ) (o : Option Domain) → Kept c.heap (step_of p c d o)
    step_of_kept p c d (Some (Live doing context)) = acts_kept (record { program = p; config = c; me = d; context = context }) doing
    step_of_kept p c d _ = tt

    while_running_kept : (h : Heap) (e : End) (o : Option Config) → Kept h o → Kept h (while_running e o)
    while_running_kept h Running o k = k
    while_running_kept h _ o k = tt

    step_kept : (p : Program) (c : Config) (d : ℕ) → Kept c.heap (step p c d)
    step_kept p c d = while_running_kept c.heap c.end _ (step_of_kept p c d (slice_get c.domains d))

    kept_some : (h : Heap) (o : Option Config) (c : Config) → Kept h o → o ≡ Some c → R h c.heap
    kept_some h o c k e = subst (Kept h) e k

    -- one step
    pub one_step : (p : Program) (c after : Config) (d : ℕ) → step p c d ≡ Some after → R c.heap after.heap
    one_step p c after d e = kept_some c.heap (step p c d) after (step_kept p c d) e

    longer : (h i : Heap) (o : Option Config) → R h i → Kept i o → Kept h o
    longer h i None r k = tt
    longer h i (Some c) r k = andthen h i c.heap r k

    onward : (h : Heap) (o : Option Config) (next : Config → Option Config) → Kept h o → ((c : Config) → Kept c.heap (next c)) → Kept h (given o next)
    onward h None next k e = tt
    onward h (Some c) next k e = longer h c.heap (next c) k (e c)

    runs_kept : (p : Program) (c : Config) (ds : List ℕ) → Kept c.heap (runs p c ds)
    runs_kept p c [] = same c.heap
    runs_kept p c (d ∷ ds) = onward c.heap (step p c d) (λ next. runs p next ds) (step_kept p c d) (λ next. runs_kept p next ds)

    -- a whole run
    pub whole_run : (p : Program) (c after : Config) (ds : List ℕ) → runs p c ds ≡ Some after → R c.heap after.heap
    whole_run p c after ds e = kept_some c.heap (runs p c ds) after (runs_kept p c ds) e
