-- Believed: the known examples of document 01, P1 to P12, as one list under one statement.
use Rattle.std.specs.Prelude.{not, ◌&&◌, List, [], ◌∷◌, ◌≡◌, ℕ, zero, suc, ltb, eqb}
use Rattle.paper.specs.Table1.{Value, 𝐟, 𝐮, 𝐢, 𝐭}
use Rattle.paper.specs.Rules.{Rule, OneRulePerHead, positive, negative}
use Rattle.sets.specs.Sets.{◌∈◌}
use Rattle.paper.specs.Definitions.{Interpretation, value, Model, WellSupported, SmallestWellSupported}
use Rattle.paper.specs.Marking.{Marks, Marking, Settled}

infix 90 ◌:-◌
-- head and groups
abbrev pub ◌:-◌ : ℕ → List (List ℕ) → Rule
l :- βs = record { head = l; groups = βs }

-- the values of the atoms 0, 1, ..: at atom a and the n - 1 after it
abbrev pub values_from : Interpretation → ℕ → ℕ → List Value
values_from I a zero = []
values_from I a (suc n) = value I (positive a) ∷ values_from I (suc a) n

-- all literals of N atoms
abbrev pub all_literals : ℕ → Interpretation
all_literals N l = ltb l (positive N)

-- N, the rules, the value of each atom, how many marks are made, which other sets are well-supported too, and which are models and are not
pub record Example : Type 0 where
  pub atoms : ℕ
  pub rules : List Rule
  pub values : List Value
  pub made : ℕ
  pub also : List Interpretation
  pub only_models : List Interpretation

-- what an example says: these are the values of the smallest well-supported model, a settled marking from none exists and each has made so many marks,
-- and the other sets are what they are called
pub record Says (e : Example) : Type 1 where
  pub one_rule_per_head : OneRulePerHead e.rules
  pub smallest : (I : Interpretation) → SmallestWellSupported e.rules I → values_from I 0 e.atoms ≡ e.values
  pub exists : (I : Interpretation) × SmallestWellSupported e.rules I
  pub marks_made : (n : ℕ) (A : Marks) → Marking e.rules n A → Settled e.rules A → n ≡ e.made
  pub settles : (A : Marks) × Marking e.rules e.made A × Settled e.rules A
  pub also_well_supported : (J : Interpretation) → J ∈ e.also → WellSupported e.rules J × (SmallestWellSupported e.rules J → ⊥)
  pub only_a_model : (J : Interpretation) → J ∈ e.only_models → Model e.rules J × (WellSupported e.rules J → ⊥)

-- P1 no rules, N 0: settled, no values
abbrev pub P1 : Example
P1 = record { atoms = 0; rules = []; values = []; made = 0; also = []; only_models = [] }

-- P2 "-b: b": b u. {b, -b} is also well-supported as printed, and is not the smallest
abbrev pub P2 : Example
P2 = record { atoms = 1; rules = negative 0 :- ((positive 0 ∷ []) ∷ []) ∷ []; values = 𝐮 ∷ []; made = 0; also = all_literals 1 ∷ []; only_models = [] }

-- P3 "p: q": both u
abbrev pub P3 : Example
P3 = record { atoms = 2; rules = positive 0 :- ((positive 1 ∷ []) ∷ []) ∷ []; values = 𝐮 ∷ 𝐮 ∷ []; made = 0; also = []; only_models = [] }

-- P4 "p": t
abbrev pub P4 : Example
P4 = record { atoms = 1; rules = positive 0 :- [] ∷ []; values = 𝐭 ∷ []; made = 0; also = []; only_models = [] }

-- P5 "p", "-p": i
abbrev pub P5 : Example
P5 = record { atoms = 1; rules = positive 0 :- [] ∷ negative 0 :- [] ∷ []; values = 𝐢 ∷ []; made = 1; also = []; only_models = [] }

-- P6 "l", "c: l", "-l: -c": l t, c t. All four literals together are well-supported too
abbrev pub P6 : Example
P6 =
    record {
      atoms = 2;
      rules = positive 0 :- [] ∷ positive 1 :- ((positive 0 ∷ []) ∷ []) ∷ negative 0 :- ((negative 1 ∷ []) ∷ []) ∷ [];
      values = 𝐭 ∷ 𝐭 ∷ [];
      made = 0;
      also = all_literals 2 ∷ [];
      only_models = [];
    }

-- P7 "p", "-p: p": i
abbrev pub P7 : Example
P7 = record { atoms = 1; rules = positive 0 :- [] ∷ negative 0 :- ((positive 0 ∷ []) ∷ []) ∷ []; values = 𝐢 ∷ []; made = 1; also = []; only_models = [] }

-- P8 "-q", "p: q": q f, p u
abbrev pub P8 : Example
P8 = record { atoms = 2; rules = negative 0 :- [] ∷ positive 1 :- ((positive 0 ∷ []) ∷ []) ∷ []; values = 𝐟 ∷ 𝐮 ∷ []; made = 0; also = []; only_models = [] }

-- P9 "a", "-a", "p: a b": a i, b u, p u
abbrev pub P9 : Example
P9 =
    record {
      atoms = 3;
      rules = positive 0 :- [] ∷ negative 0 :- [] ∷ positive 2 :- ((positive 0 ∷ positive 1 ∷ []) ∷ []) ∷ [];
      values = 𝐢 ∷ 𝐮 ∷ 𝐮 ∷ [];
      made = 1;
      also = [];
      only_models = [];
    }

-- all literals of P10 but -b: -p would rest on "p: a / b", whose body is t and not exactly i
abbrev pub all_but_negative_b : Interpretation
all_but_negative_b l = all_literals 3 l && not (eqb l (negative 1))

-- P10 "a", "-a", "b", "p: a / b": p t
abbrev pub P10 : Example
P10 =
    record {
      atoms = 3;
      rules = positive 0 :- [] ∷ negative 0 :- [] ∷ positive 1 :- [] ∷ positive 2 :- ((positive 0 ∷ []) ∷ (positive 1 ∷ []) ∷ []) ∷ [];
      values = 𝐢 ∷ 𝐭 ∷ 𝐭 ∷ [];
      made = 1;
      also = [];
      only_models = all_but_negative_b ∷ [];
    }

-- P11 "a", "-a", "b: a", "h", "-h: -b", "g: h / k", "k: g": all five i, five marks (a 0, b 1, h 2, g 3, k 4)
abbrev pub P11 : Example
P11 =
    record {
      atoms = 5;
      rules =
          positive 0 :- [] ∷ negative 0 :- [] ∷ positive 1 :- ((positive 0 ∷ []) ∷ []) ∷ positive 2 :- []
          ∷ negative 2 :- ((negative 1 ∷ []) ∷ []) ∷ positive 3 :- ((positive 2 ∷ []) ∷ (positive 4 ∷ []) ∷ []) ∷ positive 4 :- ((positive 3 ∷ []) ∷ []) ∷ [];
      values = 𝐢 ∷ 𝐢 ∷ 𝐢 ∷ 𝐢 ∷ 𝐢 ∷ [];
      made = 5;
      also = [];
      only_models = [];
    }

-- P12 Example 17 with Example 7 (wait 0, overloaded 1, rest_time 2, good_mood 3, rested 4, success 5): good_mood and success t, the other four i
abbrev pub P12 : Example
P12 =
    record {
      atoms = 6;
      rules =
          positive 0 :- ((positive 1 ∷ []) ∷ (positive 2 ∷ []) ∷ []) ∷ positive 2 :- ((positive 0 ∷ []) ∷ [])
          ∷ negative 1 :- ((positive 2 ∷ []) ∷ []) ∷ positive 1 :- []
          ∷ positive 3 :- ((positive 4 ∷ []) ∷ (positive 5 ∷ []) ∷ []) ∷ negative 4 :- ((negative 2 ∷ []) ∷ []) ∷ positive 4 :- [] ∷ positive 5 :- [] ∷ [];
      values = 𝐢 ∷ 𝐢 ∷ 𝐢 ∷ 𝐭 ∷ 𝐢 ∷ 𝐭 ∷ [];
      made = 4;
      also = [];
      only_models = [];
    }

abbrev pub examples : List Example
examples = P1 ∷ P2 ∷ P3 ∷ P4 ∷ P5 ∷ P6 ∷ P7 ∷ P8 ∷ P9 ∷ P10 ∷ P11 ∷ P12 ∷ []
