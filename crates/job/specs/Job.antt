-- To believe: a job as it is read, numbers from the front, the first fault deciding.
--
--   most_bytes, most_outlines == a job has no more bytes, and no more figures
--   least_rings              == a figure announces its rings from two on: one ring is not announced
--   value s low high at     == a number from low to high; one outside is a fault, shown by its last byte
--   coordinates s n at      == n coordinates, one after another
--   ring s most at          == V, 4 to the most that is left, and 2V coordinates: the list that they are
--   left_after left l        == how many corners a ring leaves of those that were left before it
--   rings_from s r left at   == r rings, one after another, with so many corners together at most
--   announces s at          == the byte 0 stands at the place: rings are announced
--   outline s at            == a figure, as its rings: 0, R from 2 to 8, and R rings; or one ring alone
--   figure_of ls             == rings laid out as the two lists of a figure: all numbers, and how many corners each ring has
--   Part                    == a figure of a job: where its first byte stands, where its last coordinate ends, and its rings
--   part s at               == a figure with where it stands
--   outlines s k at         == k figures, one after another
--   Header, header s        == threshold, weight and K of a job, from its front
--   Job                     == threshold, weight and the figures, with where they stand
--   filled s r              == what fills the bytes s exactly: the first byte too many is a fault
--   body s                  == the header and its figures
--   job s                   == a whole job: at most 4,096 bytes, a header, K figures, and nothing after them
use Rattle.std.specs.Prelude.{ℕ, zero, suc, ◌+◌, ◌-◌, ◌*◌, ◌/◌, List, [], ◌∷◌, map, Bool, cond, ◌&&◌, length, get_or, ltb, leb, eqb}
use Rattle.sum.specs.Sum.{join}
use Rattle.refusal.specs.declared.Refusal.TheVariants as because
use Rattle.rule.specs.Rules.{limit}
use Rattle.figure.specs.Figure.{Figure, figure, least_corners, most_corners, most_rings, most_place}
use Rattle.number.specs.Reading.{Reading, read, fault, and_then, many}
use Rattle.number.specs.Number.{number}

abbrev pub most_bytes : ℕ
most_bytes = 4096

abbrev pub most_outlines : ℕ
most_outlines = 255

abbrev pub least_rings : ℕ
least_rings = 2

unfoldable pub value : List ℕ → ℕ → ℕ → ℕ → Reading ℕ
value s low high at =
    and_then (number s at) (λ v next. cond (leb low v && leb v high) (read v next) (fault because.Range (next - 1)))

unfoldable pub coordinates : List ℕ → ℕ → ℕ → Reading (List ℕ)
coordinates s n at = many (value s 0 most_place) n at

-- V may be odd here
unfoldable pub ring : List ℕ → ℕ → ℕ → Reading (List ℕ)
ring s most at = and_then (value s least_corners most at) (λ v next. coordinates s (2 * v) next)

abbrev pub left_after : ℕ → List ℕ → ℕ
left_after left l = left - length l / 2

unfoldable pub rings_from : List ℕ → ℕ → ℕ → ℕ → Reading (List (List ℕ))
rings_from s zero left at = read [] at
rings_from s (suc r) left at =
    and_then (ring s left at)
    (λ l next. and_then (rings_from s r (left_after left l) next) (λ ls last. read (l ∷ ls) last))

unfoldable pub announces : List ℕ → ℕ → Bool
announces s at = ltb at (length s) && eqb (get_or s at 0) 0

unfoldable pub outline : List ℕ → ℕ → Reading (List (List ℕ))
outline s at =
    cond (announces s at)
    (and_then (value s least_rings most_rings (at + 1)) (λ r next. rings_from s r most_corners next))
    (and_then (ring s most_corners at) (λ l next. read (l ∷ []) next))

abbrev pub figure_of : List (List ℕ) → Figure
figure_of ls = figure (join (λ l. l) ls) (map (λ (l : List ℕ). length l / 2) ls)

pub record Part : Type 0 where
  pub start : ℕ
  pub end : ℕ
  pub rings : List (List ℕ)

unfoldable pub part : List ℕ → ℕ → Reading Part
part s at = and_then (outline s at) (λ ls next. read (record { start = at; end = next; rings = ls }) next)

unfoldable pub outlines : List ℕ → ℕ → ℕ → Reading (List Part)
outlines s k at = many (part s) k at

pub record Header : Type 0 where
  pub threshold : ℕ
  pub weight : ℕ
  pub count : ℕ

unfoldable pub header : List ℕ → Reading Header
header s =
    and_then (value s 0 limit 0)
    (λ t p. and_then (value s 0 limit p)
    (λ w q. and_then (value s 0 most_outlines q) (λ k next. read (record { threshold = t; weight = w; count = k }) next)))

pub record Job : Type 0 where
  pub threshold : ℕ
  pub weight : ℕ
  pub parts : List Part

unfoldable pub filled : {A : Type 0} → List ℕ → Reading A → Reading A
filled s r = and_then r (λ a last. cond (ltb last (length s)) (fault because.Extra last) (read a last))

unfoldable pub body : List ℕ → Reading Job
body s =
    and_then (header s)
    (λ h next. and_then (outlines s h.count next)
    (λ ps last. read (record { threshold = h.threshold; weight = h.weight; parts = ps }) last))

unfoldable pub job : List ℕ → Reading Job
job s = cond (ltb most_bytes (length s)) (fault because.Long 0) (filled s (body s))
