-- Stage: the index: for each literal the places at which it stands in groups, from the last to the first, and for each place its group; and the heads of the facts.
use Rattle.std.specs.Prelude.{List, [], ◌⊎◌, ◌↔◌, ◌≡◌, ℕ, zero, suc, ◌+◌, ◌≤◌, ◌<◌, T, length, get_or, set, drop, replicate}
use Rattle.limits.specs.Limits.{most_codes}
use Rattle.paper.specs.Rules.{Rule}
use Rattle.sets.specs.Sets.{◌∈◌}
use Rattle.bits.specs.Sets.{member, put_in}
use Rattle.words.specs.Layout.{rules_of, literals_at}
use Rattle.index.specs.declared.Index.{Index}
use Rattle.index.specs.Placed.{Placed, LiteralAt, Table, Cursor, placed_of}

-- of a table without records
abbrev pub empty : Index
empty = record { last = replicate 1024 0; earlier = replicate 8192 0; owner = replicate 8192 0; facts = replicate 16 0 }

abbrev pub last_in : Index → ℕ → ℕ
last_in x l = get_or x.last l 0

abbrev pub earlier_in : Index → ℕ → ℕ
earlier_in x p = get_or x.earlier p 0

-- of a literal's place the place of its group, of a group's place the head of its rule
abbrev pub owner_in : Index → ℕ → ℕ
owner_in x p = get_or x.owner p 0

-- with the owner of a place
abbrev pub with_owner : Index → ℕ → ℕ → Index
with_owner x p o = record { last = x.last; earlier = x.earlier; owner = set x.owner p o; facts = x.facts }

-- with literal l at place p of the group at place g: p is its last place now
abbrev pub with_place : Index → ℕ → ℕ → ℕ → Index
with_place x l p g =
    record { last = set x.last l p; earlier = set x.earlier p (last_in x l); owner = set x.owner p g; facts = x.facts }

-- x is the last place before p at which the literal stands, or 0
pub record Latest (G : List Placed) (l p x : ℕ) : Type 0 where
  pub none_after : (c : ℕ) → LiteralAt G l c → c < p → c ≤ x
  pub stands : (x ≡ 0) ⊎ (LiteralAt G l x × (x < p))

-- the index has all places before p
pub record Indexed (G : List Placed) (x : Index) (p : ℕ) : Type 0 where
  pub lasts : length x.last ≡ 1024
  pub earliers : length x.earlier ≡ 8192
  pub owners : length x.owner ≡ 8192
  pub last : (l : ℕ) → l < most_codes → Latest G l p (last_in x l)
  pub earlier : (l c : ℕ) → LiteralAt G l c → c < p → Latest G l c (earlier_in x c)
  pub owner : (γ : Placed) → γ ∈ G → (i : ℕ) → i < length γ.literals → literals_at γ.at + i < p → owner_in x (literals_at γ.at + i) ≡ γ.at
  pub head : (γ : Placed) → γ ∈ G → γ.at < p → owner_in x γ.at ≡ γ.head

-- the head of a fact
pub record FactIn (R : List Rule) (l : ℕ) : Type 0 where
  pub rule : Rule
  pub one : rule ∈ R
  pub head : rule.head ≡ l
  pub fact : rule.groups ≡ []

-- with the head of a record of m groups, if it is a fact
unfoldable pub with_fact : List ℕ → ℕ → ℕ → List ℕ
with_fact f h zero = put_in f h
with_fact f h (suc m) = f

-- the index with the head of a record of m groups, if it is a fact
abbrev pub with_fact_in : Index → ℕ → ℕ → Index
with_fact_in x h m = record { last = x.last; earlier = x.earlier; owner = x.owner; facts = with_fact x.facts h m }

-- the row has the heads of the facts before place p
pub record FactsTo (t f : List ℕ) (p : ℕ) : Type 0 where
  pub row : length f ≡ 16
  pub rules : (ρ : Rule) → ρ ∈ rules_of (drop p t) → ρ ∈ rules_of t
  pub facts : (l : ℕ) → (T (member f l) ⊎ FactIn (rules_of (drop p t)) l) ↔ FactIn (rules_of t) l

-- the index has all before place p, where a record begins
pub record IndexedTo (t : List ℕ) (x : Index) (p : ℕ) : Type 0 where
  pub cursor : Cursor t p 0 0
  pub indexed : Indexed (placed_of t) x p
  pub facts : FactsTo t x.facts p

-- the index of a table
pub record IndexOf (t : List ℕ) (x : Index) : Type 0 where
  pub table : Table t
  pub indexed : Indexed (placed_of t) x (length t)

-- the row has the heads of the facts
pub record FactsOf (t f : List ℕ) : Type 0 where
  pub row : length f ≡ 16
  pub facts : (l : ℕ) → T (member f l) ↔ FactIn (rules_of t) l
