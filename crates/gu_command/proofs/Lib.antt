mod CommandLines
