-- What a run uses: words of blocks, rooms of segments, what its steps look at, and the sums of these. All of it is this
-- project's own.
use Rattle.std.specs.Prelude.{ℕ, zero, suc, ◌+◌, ◌-◌, ◌*◌, ◌/◌, ℤ, pos, max, List, [], ◌∷◌, Option, Some, None, length, drop, if◌then◌else◌, nat_eq, slice_get, map, sum}
use Rattle.effect_meaning.specs.Terms.{Pattern, ConstPat, Literal, Operation, Compare, Concat, StringGet, StringSub, Continue, Discontinue, Kind, Deep, Program}
use Rattle.effect_meaning.specs.Config.{Value, Owner, OfClause, NoText, Operating, Handling, Frame, Parts, LetIn, Then, Branch, Matching, Catching, Guarding, Defines, Destructures, Evaluates, Segment, Block, Closure, Data, Text, Continuation, DomainOf, Heap, Look, LookIn, Goal, ForClause, ForEffect, ForItem, Doing, Eval, Return, Testing, Searching, Domain, Live, Done, End, Uncaught, Config}
use Rattle.effect_meaning.specs.StaticTexts.{literal_text}
use Rattle.effect_meaning.specs.Focus.{given, given_or, block_at, values_of, text_of, number_of}
use Rattle.effect_meaning.specs.Texts.{part_of}
use Rattle.effect_meaning.specs.Slots.{slots, tops, without, free_names, effects_free}
use Rattle.effect_meaning.specs.Limits.{greatest}
use Rattle.effect_meaning.specs.Step.{step}
use Rattle.effect_meaning.specs.Run.{start, Run}

-- the begun steps of a run: its own, and one further step of each domain that can take one. The further steps are
-- alternatives from one configuration
pub record Begun : Type 0 where
  pub before : Config
  pub after : Config
  pub domain : ℕ

-- a step in front of others, where it can be taken
abbrev pub begun_by : Option Config → Config → ℕ → List Begun → List Begun
begun_by None c d rest = rest
begun_by (Some next) c d rest = record { before = c; after = next; domain = d } ∷ rest

-- the further steps of the domains below n
abbrev pub further_below : Program → Config → ℕ → List Begun
further_below p c zero = []
further_below p c (suc n) = begun_by (step p c n) c n (further_below p c n)

-- the further steps of all domains
abbrev pub further : Program → Config → List Begun
further p c = further_below p c (length c.domains)

-- from c on: the steps of the list and the further steps after them
abbrev pub begun_from : Program → Config → List ℕ → List Begun
begun_from p c [] = further p c
begun_from p c (d ∷ ds) =
    given_or (step p c d) (λ next. record { before = c; after = next; domain = d } ∷ begun_from p next ds) []

-- the begun steps of a run
abbrev pub begun : (p : Program) (h : ℕ) → Run p h → List Begun
begun p h r = begun_from p (start p h) r.list

-- the sum of a number of each
abbrev pub total : {A : Type 0} → (A → ℕ) → List A → ℕ
total g xs = sum (map g xs)

-- how many of these names aren't top-level
abbrev pub outer_count : Program → List ℕ → ℕ
outer_count p xs = length (without (tops p.items) xs)

-- the words of a block, its header included: tuples, records, arrays, cells, constructors with an argument, exceptions and
-- effects are data
abbrev pub words : Program → Block → ℕ
words p (Closure x body names) = 2 + length (free_names (tops p.items) x body)
words p (Data tag vs) = 1 + length vs
words p (Text bytes) = 2 + (length bytes + 7) / 8
words p (Continuation content) = 4
words p (DomainOf d) = 4

-- an evaluated Handle counts as one block more: 4 words and the names that are free in its effect clauses together
abbrev pub handle_words : Program → List Frame → ℕ
handle_words p (Parts (Handling kind cs) [] done s ∷ ks) = 4 + outer_count p (effects_free cs)
handle_words p _ = 0

-- the words of the handler that a domain's step makes
abbrev pub handler_made : Program → Option Domain → ℕ
handler_made p (Some (Live (Return v) (s ∷ ss))) = handle_words p s.frames
handler_made p _ = 0

-- the words that a step makes: of its new blocks, and of a Handle whose parts all have values
abbrev pub words_made : Program → Begun → ℕ
words_made p b =
    total (words p) (drop (length b.before.heap) b.after.heap) + handler_made p (slice_get b.before.domains b.domain)

-- room

-- to whose text a frame belongs
abbrev pub frame_owner : Frame → Owner
frame_owner (Parts shape left done s) = s.owner
frame_owner (LetIn x b s) = s.owner
frame_owner (Then b s) = s.owner
frame_owner (Branch a b s) = s.owner
frame_owner (Matching at cs s) = s.owner
frame_owner (Catching at values exceptions s) = s.owner
frame_owner (Guarding body inner v rest otherwise s) = s.owner
frame_owner (Defines x rest s) = s.owner
frame_owner (Destructures at q rest s) = s.owner
frame_owner (Evaluates rest s) = s.owner
frame_owner _ = NoText

-- to whose text a test belongs
abbrev pub goal_owner : Goal → Owner
goal_owner (ForClause guard body v rest otherwise s) = s.owner
goal_owner (ForEffect e n argument k body rest) = OfClause argument k body
goal_owner (ForItem at rest s) = s.owner

-- to whose text what a domain is at belongs
abbrev pub doing_owner : Doing → Owner
doing_owner (Eval a s) = s.owner
doing_owner (Testing todo others names goal) = goal_owner goal
doing_owner _ = NoText

-- the sum of 8 + slots over the frames of a segment
abbrev pub frames_room : List Frame → ℕ
frames_room ks = total (λ k. 8 + slots (frame_owner k)) ks

-- the room of the segment with this number among these, more being added to the first one
abbrev pub room_among : ℕ → ℕ → List Segment → ℕ
room_among n more [] = 0
room_among n more (s ∷ ss) = if nat_eq n s.number then more + frames_room s.frames else room_among n 0 ss

-- its room in the context of a domain, where what the domain is at counts for the innermost segment
abbrev pub domain_room : ℕ → Domain → ℕ
domain_room n (Live doing context) = room_among n (8 + slots (doing_owner doing)) context
domain_room n (Done r) = 0

-- its room in a continuation
abbrev pub block_room : ℕ → Block → ℕ
block_room n (Continuation (Some ss)) = room_among n 0 ss
block_room n _ = 0

-- the room of segment n in a configuration, wherever it stands
abbrev pub room : Config → ℕ → ℕ
room c n = max (greatest (map (domain_room n) c.domains)) (greatest (map (block_room n) c.heap))

-- the greatest room of segment n at the start of a run and after its begun steps
abbrev pub greatest_room : Config → List Begun → ℕ → ℕ
greatest_room first bs n = max (room first n) (greatest (map (λ b. room b.after n) bs))

-- look

-- the bytes of a string
abbrev pub text_length : Heap → Value → ℕ
text_length heap v = given_or (text_of (block_at heap v)) length 0

-- the bytes of a string from i on, as many as k, where they are there
abbrev pub part_length : Heap → Value → Value → ℤ → ℕ
part_length heap v i k =
    given_or (given (text_of (block_at heap v)) (λ t. given (number_of i) (λ n. part_of t n k))) length 0

-- the segments of a continuation
abbrev pub segments_count : Option Block → ℕ
segments_count (Some (Continuation (Some ss))) = length ss
segments_count _ = 0

-- the string bytes that an operation reads, printing apart, and the segments that it moves
abbrev pub operation_look : Heap → Operation → List Value → ℕ
operation_look heap (Compare o) vs = total (text_length heap) vs
operation_look heap Concat vs = total (text_length heap) vs
operation_look heap StringGet (v ∷ i ∷ vs) = part_length heap v i (pos 1)
operation_look heap StringSub (v ∷ i ∷ k ∷ vs) = given_or (number_of k) (part_length heap v i) 0
operation_look heap Continue (k ∷ vs) = segments_count (block_at heap k)
operation_look heap Discontinue (k ∷ vs) = segments_count (block_at heap k)
operation_look heap op vs = 0

-- the segments that a Handle moves, where it is shallow
abbrev pub handle_look : Heap → Kind → List Value → ℕ
handle_look heap Deep vs = 0
handle_look heap kind [] = 0
handle_look heap kind (k ∷ vs) = segments_count (block_at heap k)

-- what the step looks at in which a value meets these frames
abbrev pub meeting_look : Heap → Value → List Frame → ℕ
meeting_look heap v (Parts (Operating op) [] done s ∷ ks) = operation_look heap op (v ∷ done)
meeting_look heap v (Parts (Handling kind cs) [] done s ∷ ks) = handle_look heap kind (v ∷ done)
meeting_look heap v _ = 0

-- the test of a pattern node: the node, and the bytes that a string constant is compared with and has itself
abbrev pub node_look : Heap → Pattern → Option Value → ℕ
node_look heap (ConstPat (Literal i)) (Some v) = 1 + text_length heap (literal_text i) + text_length heap v
node_look heap q v = 1

-- what a domain's step looks at: bytes that it reads, pattern nodes and effect clauses that it tests, segments that it
-- passes or moves
abbrev pub doing_look : Heap → Option Domain → ℕ
doing_look heap (Some (Live (Return v) (s ∷ ss))) = meeting_look heap v s.frames
doing_look heap (Some (Live (Testing (Look q v ∷ todo) others names goal) context)) = node_look heap q (Some v)
doing_look heap (Some (Live (Testing (LookIn q l i ∷ todo) others names goal) context)) =
    node_look heap q (given (values_of (slice_get heap l)) (λ vs. slice_get vs i))
doing_look heap (Some (Live (Testing [] others names (ForEffect e n argument k body rest)) context)) = n + 1
doing_look heap (Some (Live (Searching e n cs) context)) = 1
doing_look heap _ = 0

-- the bytes of a new string
abbrev pub text_made : Block → ℕ
text_made (Text bytes) = length bytes
text_made _ = 0

-- the bytes of the text of an uncaught exception
abbrev pub end_look : End → ℕ
end_look (Uncaught text) = length text
end_look _ = 0

-- the bytes that a step reads, makes or prints, and the segments, clauses and pattern nodes that it passes or moves
abbrev pub look : Begun → ℕ
look b =
    doing_look b.before.heap (slice_get b.before.domains b.domain)
    + total text_made (drop (length b.before.heap) b.after.heap)
    + (length b.after.output - length b.before.output)
    + end_look b.after.end

-- spend and effort

-- how stacks take words: each segment a stack of this size, or stacks that grow by copying
pub data Stacks : Type 0 where
  Fixed : (size : ℕ) → Stacks
  Growing : Stacks

-- what a segment counts whose greatest room is this
abbrev pub segment_words : Stacks → ℕ → ℕ
segment_words (Fixed size) most = size
segment_words Growing most = 256 + 8 * most

-- the numbers below n
abbrev pub below : ℕ → List ℕ
below zero = []
below (suc n) = n ∷ below n

-- the segments that the run's own steps have made, and domain 0's first one
abbrev pub made_words : (p : Program) (h : ℕ) → Stacks → Run p h → ℕ
made_words p h stacks r =
    total (λ n. segment_words stacks (greatest_room (start p h) (begun p h r) n)) (below r.last.made)

-- the segments that a further step makes
abbrev pub further_words : Stacks → Begun → ℕ
further_words stacks b =
    total (λ i. segment_words stacks (room b.after (b.before.made + i))) (below (b.after.made - b.before.made))

-- the heap words that suffice for a run: 4096, the words of all blocks that its begun steps make, and its segments
abbrev pub spend : (p : Program) (h : ℕ) → Stacks → Run p h → ℕ
spend p h stacks r =
    4096 + total (words_made p) (begun p h r) + (made_words p h stacks r + total (further_words stacks) (further p r.last))

-- the instructions that suffice for a run on each hart
abbrev pub effort : (p : Program) (h : ℕ) → Stacks → Run p h → ℕ
effort p h stacks r = 256 * h * (total (λ b. 1 + look b) (begun p h r) + spend p h stacks r) + 1024 * h
