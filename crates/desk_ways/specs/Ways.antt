-- Where a value is missing that a node reads: the last branch or loop before it that can pass without giving one.
use Rattle.std.specs.Prelude.{◌≡◌, Bool, true, false, not, ◌&&◌, ◌||◌, List, ℕ, zero, suc, ◌<◌, eqb}
use Rattle.varset.specs.Lowest.{pick}
use Rattle.varset.specs.Sets.{none}
use Rattle.records.specs.Fields.{kind_at, b_at}
use Rattle.spec_language.specs.Statements.{prior, last, statement_at}
use Rattle.spec_language.specs.Flow.{leaves}
use Rattle.spec_language.specs.Scopes.{decl_of, under}
use Rattle.spec_language.specs.Nodes.{some}
use Rattle.spec_language.specs.Known.{Known}
use Rattle.desk_ways.specs.declared.Way.{Way}
use Rattle.desk_ways.specs.declared.Way.TheVariants.{Straight, First, Second, Loop, Unknown}

-- node i of n nodes reads a variable, and the nodes are as questions 4, 7 and 8 want them
abbrev pub KnownRead : List ℕ → ℕ → ℕ → Type 0
KnownRead t n i = Known t n × (i < n) × (kind_at t i ≡ 2)

-- the node that a way names, 0 where it names none
abbrev pub named_node : Way → ℕ
named_node Straight = 0
named_node (First k) = k
named_node (Second k) = k
named_node (Loop k) = k
named_node Unknown = 0

-- node j is node d, or lies in its subtree
unfoldable pub in_tree : List ℕ → ℕ → ℕ → Bool
in_tree t d j = eqb j d || under t d j

-- node j is an if that has node k in its first branch and node i in its second, so no way passes both
unfoldable pub apart : List ℕ → ℕ → ℕ → ℕ → Bool
apart t k i j = eqb (kind_at t j) 10 && (in_tree t (prior t (last j)) k && in_tree t (last j) i)

-- node k lies inside the decl of x, and no if of n nodes keeps it apart from node i
unfoldable pub on_way : List ℕ → ℕ → ℕ → ℕ → ℕ → Bool
on_way t n x i k = under t (decl_of t n x) k && not (some (apart t k i) n)

-- the statement at node s gives x a value on each way through it
unfoldable pub gives : List ℕ → ℕ → ℕ → Bool
gives t x s = leaves (statement_at t s) none x

-- the branch of the if at node k that gives no value where the other does
unfoldable pub uneven : Bool → Bool → ℕ → Way
uneven true true k = Straight
uneven true false k = Second k
uneven false true k = First k
uneven false false k = Straight

-- the gap at node k: the way past it that gives x no value where another way gives one, a branch of an if or no turn of a while; by kind
unfoldable pub gap_at : List ℕ → ℕ → ℕ → Way
gap_at t x k =
    pick (eqb (kind_at t k) 10) (uneven (gives t x (prior t (last k))) (gives t x (last k)) k)
    (pick (eqb (kind_at t k) 11 && gives t x (last k)) (Loop k) Straight)

-- the first of two ways where it names a node, else the second
unfoldable pub or_earlier : Way → Way → Way
or_earlier Straight early = early
or_earlier (First k) early = First k
or_earlier (Second k) early = Second k
or_earlier (Loop k) early = Loop k
or_earlier Unknown early = Unknown

-- the gap at the last of m nodes that has one and stands on the way to node i
unfoldable pub last_gap : List ℕ → ℕ → ℕ → ℕ → ℕ → Way
last_gap t n x i zero = Straight
last_gap t n x i (suc k) = or_earlier (pick (on_way t n x i k) (gap_at t x k) Straight) (last_gap t n x i k)

-- the way on which node i reads its variable without a value: the last gap before it
unfoldable pub way_to : List ℕ → ℕ → ℕ → Way
way_to t n i = last_gap t n (b_at t i) i i
