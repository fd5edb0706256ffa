-- The page, by its pieces, and its type. Made by bench/page_source.py from crates/page/page: edit that.
use Rattle.std.specs.Prelude.{ℕ, List, ◌++◌}
use Rattle.page.specs.declared.kind.TheConstants.{TYPE}
use Rattle.page.specs.declared.top.TheConstants.{TOP}
use Rattle.page.specs.declared.style.TheConstants.{STYLE}
use Rattle.page.specs.declared.paper.TheConstants.{PAPER}
use Rattle.page.specs.declared.middle.TheConstants.{MIDDLE}
use Rattle.page.specs.declared.script_1.TheConstants.{SCRIPT_1}
use Rattle.page.specs.declared.script_2.TheConstants.{SCRIPT_2}
use Rattle.page.specs.declared.script_3.TheConstants.{SCRIPT_3}
use Rattle.page.specs.declared.script_4.TheConstants.{SCRIPT_4}
use Rattle.page.specs.declared.script_5.TheConstants.{SCRIPT_5}
use Rattle.page.specs.declared.script_6.TheConstants.{SCRIPT_6}
use Rattle.page.specs.declared.script_7.TheConstants.{SCRIPT_7}
use Rattle.page.specs.declared.script_8.TheConstants.{SCRIPT_8}
use Rattle.page.specs.declared.script_9.TheConstants.{SCRIPT_9}
use Rattle.page.specs.declared.script_10.TheConstants.{SCRIPT_10}
use Rattle.page.specs.declared.script_11.TheConstants.{SCRIPT_11}
use Rattle.page.specs.declared.script_12.TheConstants.{SCRIPT_12}
use Rattle.page.specs.declared.script_13.TheConstants.{SCRIPT_13}
use Rattle.page.specs.declared.script_14.TheConstants.{SCRIPT_14}
use Rattle.page.specs.declared.script_15.TheConstants.{SCRIPT_15}
use Rattle.page.specs.declared.end.TheConstants.{END}

-- the page from END on
unfoldable pub from_end : List ℕ
from_end = END.now

-- the page from SCRIPT_15 on
unfoldable pub from_script_15 : List ℕ
from_script_15 = SCRIPT_15.now ++ from_end

-- the page from SCRIPT_14 on
unfoldable pub from_script_14 : List ℕ
from_script_14 = SCRIPT_14.now ++ from_script_15

-- the page from SCRIPT_13 on
unfoldable pub from_script_13 : List ℕ
from_script_13 = SCRIPT_13.now ++ from_script_14

-- the page from SCRIPT_12 on
unfoldable pub from_script_12 : List ℕ
from_script_12 = SCRIPT_12.now ++ from_script_13

-- the page from SCRIPT_11 on
unfoldable pub from_script_11 : List ℕ
from_script_11 = SCRIPT_11.now ++ from_script_12

-- the page from SCRIPT_10 on
unfoldable pub from_script_10 : List ℕ
from_script_10 = SCRIPT_10.now ++ from_script_11

-- the page from SCRIPT_9 on
unfoldable pub from_script_9 : List ℕ
from_script_9 = SCRIPT_9.now ++ from_script_10

-- the page from SCRIPT_8 on
unfoldable pub from_script_8 : List ℕ
from_script_8 = SCRIPT_8.now ++ from_script_9

-- the page from SCRIPT_7 on
unfoldable pub from_script_7 : List ℕ
from_script_7 = SCRIPT_7.now ++ from_script_8

-- the page from SCRIPT_6 on
unfoldable pub from_script_6 : List ℕ
from_script_6 = SCRIPT_6.now ++ from_script_7

-- the page from SCRIPT_5 on
unfoldable pub from_script_5 : List ℕ
from_script_5 = SCRIPT_5.now ++ from_script_6

-- the page from SCRIPT_4 on
unfoldable pub from_script_4 : List ℕ
from_script_4 = SCRIPT_4.now ++ from_script_5

-- the page from SCRIPT_3 on
unfoldable pub from_script_3 : List ℕ
from_script_3 = SCRIPT_3.now ++ from_script_4

-- the page from SCRIPT_2 on
unfoldable pub from_script_2 : List ℕ
from_script_2 = SCRIPT_2.now ++ from_script_3

-- the page from SCRIPT_1 on
unfoldable pub from_script_1 : List ℕ
from_script_1 = SCRIPT_1.now ++ from_script_2

-- the page from MIDDLE on
unfoldable pub from_middle : List ℕ
from_middle = MIDDLE.now ++ from_script_1

-- the page from PAPER on
unfoldable pub from_paper : List ℕ
from_paper = PAPER.now ++ from_middle

-- the page from STYLE on
unfoldable pub from_style : List ℕ
from_style = STYLE.now ++ from_paper

-- the page from TOP on
unfoldable pub from_top : List ℕ
from_top = TOP.now ++ from_style

-- its media type, with the fields that go with it
abbrev pub page_type : List ℕ
page_type = TYPE.now

-- the page
abbrev pub page_text : List ℕ
page_text = from_top
