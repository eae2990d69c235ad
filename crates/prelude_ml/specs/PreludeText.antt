-- The text of the definitions that stand before each program.
use Rattle.std.specs.Prelude.{ℕ, List, [], ◌∷◌, ◌++◌, codes}

-- lines of a text, each ended by a newline
abbrev pub ended : List (List ℕ) → List ℕ
ended [] = []
ended (line ∷ rest) = line ++ (codes "\n" ++ ended rest)

-- the prelude, line by line: operations on lists, then queues, then a search through the queues of suspended fibers
abbrev pub prelude_text : List ℕ
prelude_text = ended (
    codes "let rec list_length_from n l = match l with [] -> n | _ :: r -> list_length_from (n + 1) r"
    ∷ codes "let list_length l = list_length_from 0 l"
    ∷ codes "let rec list_rev_onto a l = match l with [] -> a | x :: r -> list_rev_onto (x :: a) r"
    ∷ codes "let list_rev l = list_rev_onto [] l"
    ∷ codes "let rec list_append a b = match a with [] -> b | x :: r -> x :: list_append r b"
    ∷ codes "let rec list_map f l = match l with [] -> [] | x :: r -> let y = f x in y :: list_map f r"
    ∷ codes "let rec list_iter f l = match l with [] -> () | x :: r -> f x; list_iter f r"
    ∷ codes "let rec list_fold_left f a l = match l with [] -> a | x :: r -> list_fold_left f (f a x) r"
    ∷ codes "type 'a queue_t = { mutable front : 'a list; mutable back : 'a list; mutable size : int }"
    ∷ codes "let queue_create () = { front = []; back = []; size = 0 }"
    ∷ codes "let queue_push x q = q.back <- x :: q.back; q.size <- q.size + 1"
    ∷ codes "let queue_add x q = queue_push x q"
    ∷ codes "let queue_is_empty q = q.size = 0"
    ∷ codes "let queue_length q = q.size"
    ∷ codes "let rec queue_pop q = match q.front with"
    ∷ codes "  | x :: r -> q.front <- r; q.size <- q.size - 1; x"
    ∷ codes "  | [] -> if q.size = 0 then raise Queue.Empty"
    ∷ codes "    else begin q.front <- list_rev q.back; q.back <- []; queue_pop q end"
    ∷ codes "let queue_take q = queue_pop q"
    ∷ codes "let rec fiberq_steal_from i n = if n = 0 then None"
    ∷ codes "  else match Fiberq.take_from (i mod Fiberq.slots ()) with"
    ∷ codes "  | Some k -> Some k"
    ∷ codes "  | None -> fiberq_steal_from (i + 1) (n - 1)"
    ∷ codes "let fiberq_steal () = fiberq_steal_from (Fiberq.self ()) (Fiberq.slots ())"
    ∷ [])
