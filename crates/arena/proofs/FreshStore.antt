-- What a laid out store holds, word by word; and that laying out refuses exactly what document 01 says.
use Prim.Native.Nat.{ℕ, zero, suc, ◌+◌, ◌-◌, ◌<◌, ◌≤◌}
use mathlib.Core.Path.{◌≡◌, refl, sym, ◌∙◌, subst}
use mathlib.Core.List.{List}
use native.Mathlib.Omega.{arith}
use native.Mathlib.Decide.{ℕ_discrete}
use lib.Dec.{lit<}
use lib.ListN.{length, get_or}
use Rattle.arena.specs.Words.{Long, head_words, fields, field, head, put_head, GENERATION, STACK}
use Rattle.arena.specs.inner.Only.{Only, NoField, NoHead}
use Rattle.arena.specs.Laying.{slot_words}
use Rattle.arena.specs.inner.Laying.{unlinked, blank_of, fresh_slot, lay_slots, zeroed}
use Rattle.arena.proofs.WordLaws.{lit≢, length_put, length_put_head, field_at, field_off, head-same}
use Rattle.arena.proofs.Only.{only_none, only_trans, only-room, only-put, only-put_head, only_weaken, only-blank}

-- a statement about each field
pub each_field : (P : ℕ → Type 0) → P 0 → P 1 → P 2 → P 3 → P 4 → P 5 → P 6 → P 7 → P 8 → P 9 → (f : ℕ) → f < fields → P f
each_field P a b c d e g h i j k zero l = a
each_field P a b c d e g h i j k (suc zero) l = b
each_field P a b c d e g h i j k (suc (suc zero)) l = c
each_field P a b c d e g h i j k (suc (suc (suc zero))) l = d
each_field P a b c d e g h i j k (suc (suc (suc (suc zero)))) l = e
each_field P a b c d e g h i j k (suc (suc (suc (suc (suc zero))))) l = g
each_field P a b c d e g h i j k (suc (suc (suc (suc (suc (suc zero)))))) l = h
each_field P a b c d e g h i j k (suc (suc (suc (suc (suc (suc (suc zero))))))) l = i
each_field P a b c d e g h i j k (suc (suc (suc (suc (suc (suc (suc (suc zero)))))))) l = j
each_field P a b c d e g h i j k (suc (suc (suc (suc (suc (suc (suc (suc (suc zero))))))))) l = k
each_field P a b c d e g h i j k (suc (suc (suc (suc (suc (suc (suc (suc (suc (suc n)))))))))) l = absurd (omega arith)

module _ (s : List ℕ) (cap i : ℕ) (hi : i < cap) where
  pub fresh-only : Only s (fresh_slot s cap i) cap (λ j g. j ≡ i) NoHead
  unfolding fresh_slot
  fresh-only =
      only_trans (only-blank s i (cap - 1 - i) hi (λ g l n. refl)) (only_trans (only-put _ i GENERATION _ hi (lit< tt) refl) (only-put _ i STACK _ hi (lit< tt) refl))

  module _ (room : Long s cap) where
    -- the place of one put in the chain of puts: what follows are puts in other fields
    pub fresh-is : (f : ℕ) → f < fields → field (fresh_slot s cap i) cap i f ≡ get_or (slot_words cap i) f 0
    unfolding fresh_slot blank_of unlinked
    fresh-is = each_field (λ f. field (fresh_slot s cap i) cap i f ≡ get_or (slot_words cap i) f 0)
        (simp (field_at cap (length s) room, field_off, length_put, lit<, lit≢, tt {0}))
        (simp (field_at cap (length s) room, field_off, length_put, lit<, lit≢, tt {0}))
        (simp (field_at cap (length s) room, field_off, length_put, lit<, lit≢, tt {0}))
        (simp (field_at cap (length s) room, field_off, length_put, lit<, lit≢, tt {0}))
        (simp (field_at cap (length s) room, field_off, length_put, lit<, lit≢, tt {0}))
        (simp (field_at cap (length s) room, field_off, length_put, lit<, lit≢, tt {0}))
        (simp (field_at cap (length s) room, field_off, length_put, lit<, lit≢, tt {0}))
        (simp (field_at cap (length s) room, field_off, length_put, lit<, lit≢, tt {0}))
        (simp (field_at cap (length s) room, field_off, length_put, lit<, lit≢, tt {0}))
        (simp (field_at cap (length s) room, length_put, lit<, tt {0}))

-- after n of the last slots are laid, the slots from cap - n on are fresh, and all else is as it was
pub record Laid (n : ℕ) (s t : List ℕ) (cap : ℕ) : Type 0 where
  pub only : Only s t cap (λ j g. cap ≤ j + n) NoHead
  pub fresh : (j g : ℕ) → j < cap → g < fields → cap ≤ j + n → field t cap j g ≡ get_or (slot_words cap j) g 0

-- one slot more
more : (n : ℕ) (s t : List ℕ) (cap : ℕ) → suc n ≤ cap → Long s cap → Laid n (fresh_slot s cap (cap - suc n)) t cap → Laid (suc n) s t cap
more n s t cap le room R = record {
  only = only_trans (only_weaken (λ j g hj e. omega arith) (λ h x. x) (fresh-only s cap i hi)) (only_weaken (λ j g hj l. omega arith) (λ h x. x) R.only);
  fresh = λ j g hj hg l. at j g hj hg l (ℕ_discrete j i);
}
  where
    i : ℕ
    i = cap - suc n

    hi : i < cap
    hi = omega arith

    at : (j g : ℕ) → j < cap → g < fields → cap ≤ j + suc n → Dec (j ≡ i) → field t cap j g ≡ get_or (slot_words cap j) g 0
    at j g hj hg l (yes e) =
        R.only.slots j g hj hg (λ z. omega arith)
        ∙ subst (λ (x : ℕ). field (fresh_slot s cap i) cap x g ≡ get_or (slot_words cap x) g 0) (sym e) (fresh-is s cap i hi room g hg)
    at j g hj hg l (no e) = R.fresh j g hj hg (omega arith)

pub lay_slots_lem : (n : ℕ) (s : List ℕ) (cap : ℕ) → n ≤ cap → Long s cap → Laid n s (lay_slots n s cap) cap
unfolding lay_slots
lay_slots_lem zero s cap le room = record { only = only_none; fresh = λ j g hj hg l. absurd (omega arith) }
lay_slots_lem (suc n) s cap le room =
    more n s _ cap le room (lay_slots_lem n (fresh_slot s cap (cap - suc n)) cap (omega arith) (only-room (fresh-only s cap (cap - suc n) (omega arith)) room))

-- the last n words of the header are 0, and all else is as it was
pub record Zeroed (n : ℕ) (s t : List ℕ) : Type 0 where
  pub only : Only s t 0 NoField (λ h. head_words ≤ h + n)
  pub zeros : (h : ℕ) → h < head_words → head_words ≤ h + n → head t h ≡ 0

pub zero_words : (n : ℕ) (s : List ℕ) → n ≤ head_words → Long s 0 → Zeroed n s (zeroed n s)
unfolding zeroed
zero_words zero s le room = record { only = only_none; zeros = λ h hh l. absurd (omega arith) }
zero_words (suc n) s le room = one (zero_words n (put_head s (head_words - suc n) 0) (omega arith) (rw (length_put_head s (head_words - suc n) 0) room))
  where
    w : ℕ
    w = head_words - suc n

    hw : w < head_words
    hw = omega arith

    one : Zeroed n (put_head s w 0) (zeroed n (put_head s w 0)) → Zeroed (suc n) s (zeroed n (put_head s w 0))
    one R = record {
      only = only_trans (only-put_head s w 0 hw (omega arith)) (only_weaken (λ j g hj x. x) (λ h l. omega arith) R.only);
      zeros = λ h hh l. at h hh l (ℕ_discrete h w);
    }
      where
        at : (h : ℕ) → h < head_words → head_words ≤ h + suc n → Dec (h ≡ w) → head (zeroed n (put_head s w 0)) h ≡ 0
        at h hh l (yes e) = R.only.heads h hh (λ z. omega arith) ∙ rw e (head-same s w 0 hw room)
        at h hh l (no e) = R.zeros h hh (omega arith)
