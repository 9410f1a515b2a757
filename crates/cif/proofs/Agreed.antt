-- Texts computed: the shot of the scope, the two shots of the worked example, no shot at all, the greatest shot and one in the far corner.
-- Assumes nothing.
--
--   worked           == the text of 0 0 10 10, byte by byte
--   row-bytes        == how many bytes some texts have;   row-boxes == the longest box line, and one in the far corner
use mathlib.Core.Path.{◌≡◌, refl}
use mathlib.Core.List.{[], ◌∷◌}
use lib.ListN.{length}
use Rattle.sum.specs.Sum.{join}
use Rattle.shot.specs.Shot.{shots_in}
use Rattle.cif.specs.Text.{decimal_in, decimal, box_of, box_line, cif_text, cif_bytes}

-- DS 1 1 20; L NM; B 20 20 10 10; DF; C 1; E
pub worked : cif_bytes (0 ∷ 0 ∷ 10 ∷ 10 ∷ [])
    ≡ 68 ∷ 83 ∷ 32 ∷ 49 ∷ 32 ∷ 49 ∷ 32 ∷ 50 ∷ 48 ∷ 59 ∷ 10
    ∷ 76 ∷ 32 ∷ 78 ∷ 77 ∷ 59 ∷ 10
    ∷ 66 ∷ 32 ∷ 50 ∷ 48 ∷ 32 ∷ 50 ∷ 48 ∷ 32 ∷ 49 ∷ 48 ∷ 32 ∷ 49 ∷ 48 ∷ 59 ∷ 10
    ∷ 68 ∷ 70 ∷ 59 ∷ 10
    ∷ 67 ∷ 32 ∷ 49 ∷ 59 ∷ 10
    ∷ 69 ∷ 10
    ∷ []
unfolding cif_text join box_line box_of decimal decimal_in shots_in
worked = refl

-- how many bytes the texts have
pub row-bytes : (length (cif_bytes []) ≡ 28)
    × (length (cif_bytes (0 ∷ 0 ∷ 10 ∷ 10 ∷ [])) ≡ 43)
    × (length (cif_bytes (0 ∷ 0 ∷ 60 ∷ 80 ∷ 60 ∷ 0 ∷ 100 ∷ 20 ∷ [])) ≡ 61)
    × (length (cif_bytes (0 ∷ 0 ∷ 65535 ∷ 65535 ∷ [])) ≡ 57)
unfolding cif_text join box_line box_of decimal decimal_in shots_in
row-bytes = (refl, refl, refl, refl)

-- B 131070 131070 65535 65535; and B 2 2 131069 1;
pub row-boxes : (join box_line (shots_in (0 ∷ 0 ∷ 65535 ∷ 65535 ∷ []))
    ≡ 66 ∷ 32 ∷ 49 ∷ 51 ∷ 49 ∷ 48 ∷ 55 ∷ 48 ∷ 32 ∷ 49 ∷ 51 ∷ 49 ∷ 48 ∷ 55 ∷ 48 ∷ 32 ∷ 54 ∷ 53 ∷ 53 ∷ 51 ∷ 53 ∷ 32 ∷ 54 ∷ 53 ∷ 53 ∷ 51 ∷ 53 ∷ 59 ∷ 10 ∷ [])
    × (join box_line (shots_in (65534 ∷ 0 ∷ 65535 ∷ 1 ∷ []))
    ≡ 66 ∷ 32 ∷ 50 ∷ 32 ∷ 50 ∷ 32 ∷ 49 ∷ 51 ∷ 49 ∷ 48 ∷ 54 ∷ 57 ∷ 32 ∷ 49 ∷ 59 ∷ 10 ∷ [])
unfolding join box_line box_of decimal decimal_in shots_in
row-boxes = (refl, refl)
