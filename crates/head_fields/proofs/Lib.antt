mod RowsNumbers
