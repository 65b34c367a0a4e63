-- A least set computed: a rule that fires is taken out of those that remain, and its head gets the next rank.
-- What comes out is closed, and each new member rests on members of smaller rank. Assumes nothing.
use mathlib.Core.Bool.{Bool, true, false, not, cond, ◌&&◌}
use mathlib.Core.List.Memᴰ
use mathlib.Core.List.{List, [], ◌∷◌}
use mathlib.Core.Logic.{◌⊎◌, inl, inr, ⊎_elim, ◌↔◌}
use mathlib.Core.Path.{◌≡◌, refl, subst, subst⁻¹, ap, ◌∙◌}
use Prim.Native.Nat.{ℕ, zero, suc, ◌≤◌, ◌<◌}
use native.Mathlib.Omega.{arith}
use lib.Dec.{T, eqb, eqb→eq, eqb_refl, T_not}
use lib.ListN.{length}
use Rattle.paper.specs.Fires.{wholly, some_wholly, no_groups, fires}
use Rattle.paper.specs.Rules.{Rule, IsRuleOf, atom}
use Rattle.sets.specs.Sets.{◌∈◌, ◌with◌}
use Rattle.paper.specs.Marking.{Marks, Least, from_base, by_fact, by_group, Held, Clean}
use Rattle.sets.proofs.Tests.{and_intro, and_left, and_right, or_left, or_right, or_cases, T→true, refuted→false}
use Rattle.paper.proofs.Leasts.{least_contained}
use Rattle.sets.proofs.Besides.{with_itself, with_⊇, with_cases}

-- the same as a fact
abbrev pub Fires : (ℕ → Bool) → Rule → Type 0
Fires S ρ = (ρ.groups ≡ []) ⊎ ((β : List ℕ) × (β ∈ ρ.groups) × ((ι : ℕ) → ι ∈ β → T (S ι)))

module _ (S : ℕ → Bool) where
  pub wholly→ : (β : List ℕ) → T (wholly S β) → (l : ℕ) → l ∈ β → T (S l)
  wholly→ [] h l m = absurd (Memᴰ.not-nil m)
  wholly→ (x ∷ β) h l m =
      ⊎_elim (λ (e : l ≡ x). subst⁻¹ (λ (z : ℕ). T (S z)) e (and_left (S x) (wholly S β) h))
      (λ (k : l ∈ β). wholly→ β (and_right (S x) (wholly S β) h) l k)
      (Memᴰ.cases_cons m)

  pub →wholly : (β : List ℕ) → ((l : ℕ) → l ∈ β → T (S l)) → T (wholly S β)
  →wholly [] f = tt
  →wholly (x ∷ β) f =
      and_intro (S x) (wholly S β) (f x (Memᴰ.head refl)) (→wholly β (λ l m. f l (Memᴰ.tail m)))

  some_wholly→ : (βs : List (List ℕ)) → T (some_wholly S βs) → (β : List ℕ) × (β ∈ βs) × ((ι : ℕ) → ι ∈ β → T (S ι))
  some_wholly→ [] h = absurd h
  some_wholly→ (γ ∷ βs) h = step (or_cases (wholly S γ) (some_wholly S βs) h) (λ k. some_wholly→ βs k)
    where
      step : T (wholly S γ) ⊎ T (some_wholly S βs)
          → (T (some_wholly S βs) → (β : List ℕ) × (β ∈ βs) × ((ι : ℕ) → ι ∈ β → T (S ι)))
          → (β : List ℕ) × (β ∈ (γ ∷ βs)) × ((ι : ℕ) → ι ∈ β → T (S ι))
      step (inl w) r = (γ, Memᴰ.head refl, wholly→ γ w)
      step (inr s) r = let q = r s in (q.0, Memᴰ.tail q.1, q.2)

  →some_wholly : (βs : List (List ℕ)) (β : List ℕ) → β ∈ βs → T (wholly S β) → T (some_wholly S βs)
  →some_wholly [] β m w = absurd (Memᴰ.not-nil m)
  →some_wholly (γ ∷ βs) β m w =
      ⊎_elim (λ (e : β ≡ γ). or_left (wholly S γ) (some_wholly S βs) (subst (λ (z : List ℕ). T (wholly S z)) e w))
      (λ (k : β ∈ βs). or_right (wholly S γ) (some_wholly S βs) (→some_wholly βs β k w))
      (Memᴰ.cases_cons m)

  no_groups→ : (βs : List (List ℕ)) → T (no_groups βs) → βs ≡ []
  no_groups→ [] h = refl
  no_groups→ (β ∷ βs) h = absurd h

  pub fires→ : (ρ : Rule) → T (fires S ρ) → Fires S ρ
  fires→ ρ h =
      ⊎_elim (λ (n : T (no_groups ρ.groups)). inl (no_groups→ ρ.groups n))
      (λ (s : T (some_wholly S ρ.groups)). inr (some_wholly→ ρ.groups s))
      (or_cases (no_groups ρ.groups) (some_wholly S ρ.groups) h)

  pub →fires : (ρ : Rule) → Fires S ρ → T (fires S ρ)
  →fires ρ (inl e) =
      or_left (no_groups ρ.groups) (some_wholly S ρ.groups) (subst⁻¹ (λ (z : List (List ℕ)). T (no_groups z)) e tt)
  →fires ρ (inr q) =
      or_right (no_groups ρ.groups) (some_wholly S ρ.groups) (→some_wholly ρ.groups q.0 q.1 (→wholly q.0 q.2))

-- a set with a rank for each member, and the next rank
pub record Ranking : Type 0 where
  pub members : ℕ → Bool
  pub rank : ℕ → ℕ
  pub next : ℕ

-- members stay, at their ranks
pub record Keeps (st st' : Ranking) : Type 0 where
  pub kept : (l : ℕ) → T (st.members l) → T (st'.members l)
  pub same_rank : (l : ℕ) → T (st.members l) → st'.rank l ≡ st.rank l

abbrev pub add : Ranking → ℕ → Ranking
add st h = record { members = st.members with h; rank = λ l. cond (eqb l h) st.next (st.rank l); next = suc st.next }

-- the rank after one more member
rank_other : (st : Ranking) (h l : ℕ) → (l ≡ h → ⊥) → (add st h).rank l ≡ st.rank l
rank_other st h l f = rw (refuted→false (eqb l h) (λ t. f (eqb→eq l h t)))

rank_itself : (st : Ranking) (h : ℕ) → (add st h).rank h ≡ st.next
rank_itself st h = rw (T→true (eqb h h) (eqb_refl h))

pub member_other : (st : Ranking) (h l : ℕ) → T (not (st.members h)) → T (st.members l) → l ≡ h → ⊥
member_other st h l n m e = T_not (st.members h) n (subst (λ (z : ℕ). T (st.members z)) e m)

pub keeps_add : (st : Ranking) (h : ℕ) → T (not (st.members h)) → Keeps st (add st h)
keeps_add st h n =
    record { kept = λ l x. with_⊇ st.members h l x; same_rank = λ l x. rank_other st h l (member_other st h l n x) }

pub keeps_trans : {a b c : Ranking} → Keeps a b → Keeps b c → Keeps a c
keeps_trans g h =
    record { kept = λ l m. h.kept l (g.kept l m); same_rank = λ l m. h.same_rank l (g.kept l m) ∙ g.same_rank l m }

abbrev pub Bounded : Ranking → Type 0
Bounded st = (l : ℕ) → T (st.members l) → st.rank l < st.next

pub bounded_add : (st : Ranking) (h : ℕ) → Bounded st → Bounded (add st h)
bounded_add st h b l x = go (eqb l h) (λ t. eqb→eq l h t) x
  where
    go : (c : Bool) → (T c → l ≡ h) → T (cond c true (st.members l)) → cond c st.next (st.rank l) < suc st.next
    go true e y = omega arith
    go false e y = let q = b l y in omega arith

abbrev pub start : (ℕ → Bool) → Ranking
start base = record { members = base; rank = λ l. 0; next = 1 }

-- the first rule that passes a test, and the others
pub data Pick : Type 0 where
  nothing : Pick
  taken : Rule → List Rule → Pick

abbrev keep : Rule → Pick → Pick
keep ρ nothing = nothing
keep ρ (taken σ R) = taken σ (ρ ∷ R)

abbrev pick : (Rule → Bool) → List Rule → Pick
pick test [] = nothing
pick test (ρ ∷ R) = cond (test ρ) (taken ρ R) (keep ρ (pick test R))

abbrev ready : (ℕ → Bool) → (ℕ → Bool) → Rule → Bool
ready ok S ρ = ok ρ.head && fires S ρ

abbrev add_new : Ranking → ℕ → Bool → Ranking
add_new st h true = st
add_new st h false = add st h

abbrev after : (List Rule → Ranking → Ranking) → Ranking → Pick → Ranking
after k st nothing = st
after k st (taken ρ R) = k R (add_new st ρ.head (st.members ρ.head))

abbrev pub closure : (ℕ → Bool) → ℕ → List Rule → Ranking → Ranking
closure ok zero rest st = st
closure ok (suc n) rest st = after (λ r s. closure ok n r s) st (pick (ready ok st.members) rest)

PickIs : (Rule → Bool) → List Rule → Pick → Type 0
PickIs test R nothing = (ρ : Rule) → ρ ∈ R → T (test ρ) → ⊥
PickIs test R (taken ρ R') =
    (ρ ∈ R) × T (test ρ) × (length R ≡ suc (length R'))
    × ((σ : Rule) → σ ∈ R → (σ ≡ ρ) ⊎ (σ ∈ R')) × ((σ : Rule) → σ ∈ R' → σ ∈ R)

pick_is : (test : Rule → Bool) (R : List Rule) → PickIs test R (pick test R)
unfolding PickIs
pick_is test [] = λ ρ m t. Memᴰ.not-nil m
pick_is test (ρ ∷ R) = choose (test ρ) (λ h. h) (λ h. h) (pick test R) (pick_is test R)
  where
    kept : (p : Pick) → (T (test ρ) → ⊥) → PickIs test R p → PickIs test (ρ ∷ R) (keep ρ p)
    kept nothing f h =
        λ σ m t. ⊎_elim (λ (e : σ ≡ ρ). f (subst (λ (z : Rule). T (test z)) e t)) (λ (k : σ ∈ R). h σ k t) (Memᴰ.cases_cons m)
    kept (taken σ R') f h = (
      Memᴰ.tail h.0,
      h.1,
      ap suc h.2,
      (λ τ m. ⊎_elim (λ (e : τ ≡ ρ). inr (Memᴰ.head e))
          (λ (k : τ ∈ R). ⊎_elim (λ (e : τ ≡ σ). inl e) (λ (q : τ ∈ R'). inr (Memᴰ.tail q)) (h.3 τ k))
          (Memᴰ.cases_cons m)),
      λ τ m. ⊎_elim (λ (e : τ ≡ ρ). Memᴰ.head e) (λ (k : τ ∈ R'). Memᴰ.tail (h.4 τ k)) (Memᴰ.cases_cons m),
    )

    choose : (b : Bool) → (T b → T (test ρ)) → (T (test ρ) → T b) → (p : Pick)
        → PickIs test R p → PickIs test (ρ ∷ R) (cond b (taken ρ R) (keep ρ p))
    choose true f g p h =
        (Memᴰ.head refl, f tt, refl, (λ σ m. Memᴰ.cases_cons m), λ σ m. Memᴰ.tail m)
    choose false f g p h = kept p g h

module _ (R : List Rule) (ok : ℕ → Bool) where
  -- l rests on its own rule, from members of smaller rank
  abbrev pub Own : Ranking → ℕ → Type 0
  Own st l =
      (ρ : Rule) × IsRuleOf R l ρ × T (ok l)
      × ((ρ.groups ≡ []) ⊎ ((β : List ℕ) × (β ∈ ρ.groups) × ((ι : ℕ) → ι ∈ β → T (st.members ι) × (st.rank ι < st.rank l))))

  pub record Grows (st st' : Ranking) : Type 0 where
    pub keeps : Keeps st st'
    pub came : (l : ℕ) → T (st'.members l) → T (st.members l) ⊎ Own st' l

  abbrev pub Closed : Ranking → Type 0
  Closed st = (ρ : Rule) → ρ ∈ R → T (ok ρ.head) → Fires st.members ρ → T (st.members ρ.head)

  grows_refl : (st : Ranking) → Grows st st
  grows_refl st = record { keeps = record { kept = λ l m. m; same_rank = λ l m. refl }; came = λ l m. inl m }

  pub own_kept : {st st' : Ranking} → Keeps st st' → (l : ℕ) → T (st.members l) → Own st l → Own st' l
  own_kept {st} {st'} g l m o = (
    o.0,
    o.1,
    o.2,
    ⊎_elim (λ (e : o.0.groups ≡ []). inl e)
        (λ (q : (β : List ℕ) × (β ∈ o.0.groups) × ((ι : ℕ) → ι ∈ β → T (st.members ι) × (st.rank ι < st.rank l))).
        inr (q.0, q.1, λ ι i. (g.kept ι (q.2 ι i).0, rw (g.same_rank ι (q.2 ι i).0, g.same_rank l m) (q.2 ι i).1)))
        o.3,
  )

  grows_trans : {a b c : Ranking} → Grows a b → Grows b c → Grows a c
  grows_trans {a} {b} {c} g h =
      record {
        keeps = keeps_trans g.keeps h.keeps;
        came = λ l m.
            ⊎_elim (λ (k : T (b.members l)). ⊎_elim (λ (x : T (a.members l)). inl x) (λ (o : Own b l). inr (own_kept h.keeps l k o)) (g.came l k))
            (λ (o : Own c l). inr o) (h.came l m);
      }

  grows_add : (st : Ranking) (ρ : Rule) → Bounded st → T (not (st.members ρ.head)) → ρ ∈ R → T (ok ρ.head) → Fires st.members ρ
      → Grows st (add st ρ.head)
  grows_add st ρ b n m k f =
      let h : ℕ = ρ.head in
      record {
        keeps = keeps_add st h n;
        came = λ l x.
            ⊎_elim (λ (e : l ≡ h). inr (subst⁻¹ (Own (add st h)) e itself)) (λ (y : T (st.members l)). inl y) (with_cases st.members h l x);
      }
    where
      smaller : (ι : ℕ) → T (st.members ι) → T ((add st ρ.head).members ι) × ((add st ρ.head).rank ι < (add st ρ.head).rank ρ.head)
      smaller ι x = (
        with_⊇ st.members ρ.head ι x,
        let e = rank_other st ρ.head ι (member_other st ρ.head ι n x) in
            let e' = rank_itself st ρ.head in
            let q = b ι x in
            omega arith,
      )

      itself : Own (add st ρ.head) ρ.head
      itself = (
        ρ,
        (m, refl),
        k,
        ⊎_elim (λ (e : ρ.groups ≡ []). inl e)
            (λ (q : (β : List ℕ) × (β ∈ ρ.groups) × ((ι : ℕ) → ι ∈ β → T (st.members ι))).
            inr (q.0, q.1, λ ι i. smaller ι (q.2 ι i)))
            f,
      )

  pub record Outcome (st st' : Ranking) : Type 0 where
    pub grows : Grows st st'
    pub bounded : Bounded st'
    pub closed : Closed st'

  closure_outcome : (n : ℕ) (rest : List Rule) (st : Ranking) → length rest ≤ n → ((σ : Rule) → σ ∈ rest → σ ∈ R)
      → ((σ : Rule) → σ ∈ R → (σ ∈ rest) ⊎ T (st.members σ.head)) → Bounded st → Outcome st (closure ok n rest st)
  unfolding PickIs
  closure_outcome zero [] st le sub cov b =
      record {
        grows = grows_refl st;
        bounded = b;
        closed = λ ρ m k f. ⊎_elim (λ (x : ρ ∈ []). absurd (Memᴰ.not-nil x)) (λ (y : T (st.members ρ.head)). y) (cov ρ m);
      }
  closure_outcome zero (ρ ∷ rest) st le sub cov b = absurd (omega arith)
  closure_outcome (suc n) rest st le sub cov b =
      go (pick (ready ok st.members) rest) (pick_is (ready ok st.members) rest) (λ r s l u c d. closure_outcome n r s l u c d)
    where
      Next : Type 0
      Next =
          (r : List Rule) (s : Ranking) → length r ≤ n → ((σ : Rule) → σ ∈ r → σ ∈ R)
          → ((σ : Rule) → σ ∈ R → (σ ∈ r) ⊎ T (s.members σ.head)) → Bounded s → Outcome s (closure ok n r s)

      step : (ρ : Rule) (r : List Rule) → PickIs (ready ok st.members) rest (taken ρ r) → (c : Bool) → st.members ρ.head ≡ c → Next
          → Outcome st (closure ok n r (add_new st ρ.head c))
      step ρ r p true e next =
          next r st (let q = p.2 in omega arith) (λ σ m. sub σ (p.4 σ m))
          (λ σ m. ⊎_elim (λ (x : σ ∈ rest). ⊎_elim (λ (y : σ ≡ ρ). inr (rw (y, e) tt)) (λ (z : σ ∈ r). inl z) (p.3 σ x))
          (λ (y : T (st.members σ.head)). inr y) (cov σ m)) b
      step ρ r p false e next =
          let h : ℕ = ρ.head in
          let new : T (not (st.members h)) = rw e tt in
          let g : Grows st (add st h) = grows_add st ρ b new
          (sub ρ p.0) (and_left (ok h) (fires st.members ρ) p.1) (fires→ st.members ρ (and_right (ok h) (fires st.members ρ) p.1)) in
          let o : Outcome (add st h) (closure ok n r (add st h)) =
          next r (add st h) (let q = p.2 in omega arith) (λ σ m. sub σ (p.4 σ m))
          (λ σ m. ⊎_elim
          (λ (x : σ ∈ rest). ⊎_elim (λ (y : σ ≡ ρ). inr (rw y (with_itself st.members h))) (λ (z : σ ∈ r). inl z) (p.3 σ x))
          (λ (y : T (st.members σ.head)). inr (with_⊇ st.members h σ.head y)) (cov σ m))
          (bounded_add st h b)
          in
          record { grows = grows_trans g o.grows; bounded = o.bounded; closed = o.closed }

      go : (p : Pick) → PickIs (ready ok st.members) rest p → Next → Outcome st (after (λ r s. closure ok n r s) st p)
      go nothing h next =
          record {
            grows = grows_refl st;
            bounded = b;
            closed = λ ρ m k f.
                ⊎_elim (λ (x : ρ ∈ rest). absurd (h ρ x (and_intro (ok ρ.head) (fires st.members ρ) k (→fires st.members ρ f))))
                (λ (y : T (st.members ρ.head)). y) (cov ρ m);
          }
      go (taken ρ r) h next = step ρ r h (st.members ρ.head) refl next

  -- the closure of a ranked set under the allowed rules
  abbrev pub close : Ranking → Ranking
  close st = closure ok (length R) R st

  pub close_outcome : (st : Ranking) → Bounded st → Outcome st (close st)
  close_outcome st b = closure_outcome (length R) R st (omega arith) (λ σ m. m) (λ σ m. inl m) b

  -- what grew out of a part of the least set is a part of it
  grown_least : {base : ℕ → Type 0} (st st' : Ranking) → Grows st st' → ((l : ℕ) → T (st.members l) → Least R base (λ l. T (ok l)) l)
      → (n : ℕ) (l : ℕ) → st'.rank l < n → T (st'.members l) → Least R base (λ l. T (ok l)) l
  grown_least st st' g s zero l h m = absurd (omega arith)
  grown_least {base} st st' g s (suc n) l h m =
      go (g.came l m) (λ ι k x. grown_least st st' g s n ι k x)
    where
      go : T (st.members l) ⊎ Own st' l → ((ι : ℕ) → st'.rank ι < n → T (st'.members ι) → Least R base (λ x. T (ok x)) ι)
          → Least R base (λ x. T (ok x)) l
      go (inl x) below = s l x
      go (inr o) below =
          ⊎_elim (λ (e : o.0.groups ≡ []). by_fact o.0 o.1.0 o.1.1 o.2 e)
          (λ (q : (β : List ℕ) × (β ∈ o.0.groups) × ((ι : ℕ) → ι ∈ β → T (st'.members ι) × (st'.rank ι < st'.rank l))).
          by_group o.0 q.0 o.1.0 o.1.1 o.2 q.1 (λ ι i. below ι (let k = (q.2 ι i).1 in omega arith) (q.2 ι i).0))
          o.3

  pub grows→least : {base : ℕ → Type 0} (st st' : Ranking) → Grows st st' → ((l : ℕ) → T (st.members l) → Least R base (λ l. T (ok l)) l)
      → (l : ℕ) → T (st'.members l) → Least R base (λ l. T (ok l)) l
  grows→least st st' g s l m = grown_least st st' g s (suc (st'.rank l)) l (omega arith) m

  -- a closed set that has base has the least set
  pub closed→least : {base : ℕ → Type 0} (st : Ranking) → Closed st → ((l : ℕ) → base l → T (st.members l))
      → (l : ℕ) → Least R base (λ l. T (ok l)) l → T (st.members l)
  closed→least st c b l =
      least_contained (λ l. T (st.members l)) b
      (λ l ρ m e k n. subst (λ (z : ℕ). T (st.members z)) e (c ρ m (subst⁻¹ (λ (z : ℕ). T (ok z)) e k) (inl n)))
      (λ l ρ β m e k g all. subst (λ (z : ℕ). T (st.members z)) e (c ρ m (subst⁻¹ (λ (z : ℕ). T (ok z)) e k) (inr (β, g, all))))

  -- the least set as a test
  abbrev pub least_set : (ℕ → Bool) → ℕ → Bool
  least_set base = (close (start base)).members

  pub start_outcome : (base : ℕ → Bool) → Outcome (start base) (close (start base))
  start_outcome base = close_outcome (start base) (λ l m. omega arith)

  pub least_set_is : (base : ℕ → Bool) (l : ℕ) → T (least_set base l) ↔ Least R (λ x. T (base x)) (λ x. T (ok x)) l
  least_set_is base l =
      let o = start_outcome base in (
        (λ m. grows→least {base = λ x. T (base x)} (start base) (close (start base)) o.grows (λ x h. from_base h) l m),
        λ h. closed→least (close (start base)) o.closed (λ x b. o.grows.keeps.kept x b) l h,
      )

-- held and clean as tests
abbrev pub held_set : List Rule → Marks → ℕ → Bool
held_set R A = least_set R (λ l. true) (λ l. A (atom l))

abbrev pub clean_set : List Rule → Marks → ℕ → Bool
clean_set R A = least_set R (λ l. not (A (atom l))) (λ l. false)

pub held_set_is : (R : List Rule) (A : Marks) (l : ℕ) → T (held_set R A l) ↔ Held R A l
held_set_is R A l = least_set_is R (λ x. true) (λ x. A (atom x)) l

pub clean_set_is : (R : List Rule) (A : Marks) (l : ℕ) → T (clean_set R A l) ↔ Clean R A l
clean_set_is R A l = least_set_is R (λ x. not (A (atom x))) (λ x. false) l
