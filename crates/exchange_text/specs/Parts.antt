-- The parts of the text that are the same for every number of subscribers, line by line.
use Rattle.std.specs.Prelude.{ℕ, List, ◌++◌, codes}

-- the region of the trunks, and the module of the exchange up to the number of subscribers
unfoldable pub opening : List ℕ
opening =
    codes "trunks: REGION\n" ++
    codes "GRANT seize_trunk, free_trunk;\n" ++
    codes "SYN lines = 4;\n" ++
    codes "DCL used INT := 0;\n" ++
    codes "DCL idle EVENT;\n" ++
    codes "seize_trunk: PROC ();\n" ++
    codes "DO WHILE used = lines; DELAY idle; OD;\n" ++
    codes "used +:= 1;\n" ++
    codes "END seize_trunk;\n" ++
    codes "free_trunk: PROC ();\n" ++
    codes "used -:= 1;\n" ++
    codes "CONTINUE idle;\n" ++
    codes "END free_trunk;\n" ++
    codes "END trunks;\n" ++
    codes "exchange: MODULE\n" ++
    codes "SEIZE seize_trunk, free_trunk;\n" ++
    codes "GRANT subscriber, charges, n;\n" ++
    codes "SYN n = "

-- the rest of the module of the exchange
unfoldable pub exchange : List ℕ
exchange =
    codes ";\n" ++
    codes "NEWMODE charge = STRUCT (line INT, cost INT);\n" ++
    codes "SIGNAL off_hook, dial = (INT), clear;\n" ++
    codes "DCL charges BUFFER (8) charge;\n" ++
    codes "talk: PROCESS (number INT);\n" ++
    codes "DCL digits INT;\n" ++
    codes "RECEIVE CASE (off_hook): ESAC;\n" ++
    codes "RECEIVE CASE (dial IN d): digits := d; ESAC;\n" ++
    codes "seize_trunk();\n" ++
    codes "SEND charges ([number, digits MOD 7 + 1]);\n" ++
    codes "free_trunk();\n" ++
    codes "RECEIVE CASE (clear): ESAC;\n" ++
    codes "END talk;\n" ++
    codes "subscriber: PROCESS (number INT);\n" ++
    codes "DCL i INSTANCE;\n" ++
    codes "i := START talk(number);\n" ++
    codes "SEND off_hook TO i;\n" ++
    codes "SEND dial (number * 3) TO i;\n" ++
    codes "SEND clear TO i;\n" ++
    codes "END subscriber;\n" ++
    codes "END exchange;\n"

-- the module that adds up the charges
unfoldable pub report : List ℕ
report =
    codes "report: MODULE\n" ++
    codes "SEIZE charges, n;\n" ++
    codes "DCL calls ARRAY (1:7) INT;\n" ++
    codes "DCL sum INT;\n" ++
    codes "DO FOR k := 1 TO n;\n" ++
    codes "RECEIVE CASE (charges IN c): calls(c.cost) +:= 1; sum +:= c.cost; ESAC;\n" ++
    codes "OD;\n" ++
    codes "DO FOR u := 1 TO 7;\n" ++
    codes "PUT_INT(u); PUT_TEXT(\" \"); PUT_INT(calls(u)); PUT_NL();\n" ++
    codes "OD;\n" ++
    codes "PUT_TEXT(\"total \"); PUT_INT(sum); PUT_NL();\n" ++
    codes "END report;\n"
